-- What is said of an end, as its parts one behind the other.
use Rattle.std.proofs.Common.{◌≡◌, ◌∙◌, ℕ, Bool, true, false, List, [], ◌∷◌, ◌++◌, map, refl, sym, ap, append_assoc, codes, decimal}
use Rattle.std.specs.List.{flat_map}
use Rattle.std.proofs.lemmas.List.{append-nil}
use Rattle.hs_base.specs.declared.ends.Leak.{Leak}
use Rattle.bad_free_report.specs.declared.form.Form.TheVariants as form
use Rattle.bad_free_report.specs.Json.{Truth, comma_if, items_of, items_written, number_or_null, quoted, text_or_null, written}
use Rattle.bad_free_report.specs.Notice.{Facts, end_lines, facts_of, freed_json, leak_json, limit_json, object_line, place_json}
use Rattle.bad_free_report.specs.Parts.{AreParts, front, leaks_said}
use Rattle.bad_free_report.specs.Report.{leak_text}

-- lines of leaks
leak_lines : (later : Bool) (leaks : List Leak) → leaks_said form.Lines later leaks ≡ flat_map leak_text leaks
leak_lines later [] = refl
leak_lines later (leak ∷ rest) = ap (λ l. leak_text leak ++ l) (leak_lines true rest)

-- leaks as the items of an array
leak_items : (later : Bool) (leaks : List Leak) → items_written later (items_of (map leak_json leaks)) ≡ leaks_said form.Json later leaks ++ codes "]"
leak_items later [] = refl
leak_items later (leak ∷ rest) =
    let one = written (leak_json leak) in
    ap (λ l. comma_if later ++ (one ++ l)) (leak_items true rest)
    ∙ sym (append_assoc (comma_if later) one (leaks_said form.Json true rest ++ codes "]"))
    ∙ sym (append_assoc (comma_if later ++ one) (leaks_said form.Json true rest) (codes "]"))

-- the members of an object, one behind the other: what stands before each value, the values, and how it ends
members : (a b c d e f g h m i j k kind word status own file line source holder freed help limit leaks items bracket closing brace feed : List ℕ) → items ≡ leaks ++ closing
    → (a ++ (kind ++ (b ++ (word ++ (c ++ (status ++ (d ++ (own ++ (e ++ (file ++ (f ++ (line ++ (g ++ (source ++ (h ++ (holder ++ (m ++ (freed ++ (i ++ (help ++ (j ++ (limit ++ (k ++ ((bracket ++ items) ++ brace)))))))))))))))))))))))) ++ feed
    ≡ ((a ++ (kind ++ (b ++ (word ++ (c ++ (status ++ (d ++ (own ++ (e ++ (file ++ (f ++ (line ++ (g ++ (source ++ h))))))))))))))
    ++ ((holder ++ m) ++ ((freed ++ i) ++ ((help ++ j) ++ (limit ++ (k ++ bracket))))))
    ++ (leaks ++ (closing ++ (brace ++ feed)))
members a b c d e f g h m i j k kind word status own file line source holder freed help limit leaks items bracket closing brace feed same =
    rw same (simp append_assoc)

pub object_parts : (f : Facts) (leaks : List Leak) → object_line f leaks ≡ front f ++ (leaks_said form.Json false leaks ++ codes "]}\n")
object_parts f leaks =
    members (codes "{\"kind\":") (codes ",\"word\":") (codes ",\"status\":") (codes ",\"own\":") (codes ",\"file\":") (codes ",\"line\":") (codes ",\"source\":")
    (codes ",\"holder\":") (codes ",\"freed\":") (codes ",\"help\":") (codes ",\"limit\":") (codes ",\"leaks\":") (quoted f.kind) (written (text_or_null f.word)) (decimal f.status) (written (Truth f.own)) (written (text_or_null f.file))
    (written (number_or_null f.line)) (written (text_or_null f.source)) (written (place_json f.holder)) (written (freed_json f.freed)) (written (text_or_null f.help))
    (written (limit_json f.limit)) (leaks_said form.Json false leaks) (items_written false (items_of (map leak_json leaks)))
    (codes "[") (codes "]") (codes "}") (codes "\n") (leak_items false leaks)

pub are_parts : AreParts
are_parts form.Lines e leaks status =
    ap (λ l. end_lines e ++ l) (sym (leak_lines false leaks) ∙ sym (append-nil (leaks_said form.Lines false leaks)))
are_parts form.Json e leaks status = object_parts (facts_of e status) leaks

-- the members of an object within it, up to what follows
pub five_members : (a v b w c x d y e z f rest : List ℕ)
    → (a ++ (v ++ (b ++ (w ++ (c ++ (x ++ (d ++ (y ++ (e ++ (z ++ f)))))))))) ++ rest ≡ a ++ (v ++ (b ++ (w ++ (c ++ (x ++ (d ++ (y ++ (e ++ (z ++ (f ++ rest))))))))))
five_members a v b w c x d y e z f rest = simp append_assoc

pub three_members : (a v b w c x d rest : List ℕ)
    → (a ++ (v ++ (b ++ (w ++ (c ++ (x ++ d)))))) ++ rest ≡ a ++ (v ++ (b ++ (w ++ (c ++ (x ++ (d ++ rest))))))
three_members a v b w c x d rest = simp append_assoc
