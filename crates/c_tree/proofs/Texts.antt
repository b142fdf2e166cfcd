-- The text of a tree, written one thing behind another.
use Rattle.std.proofs.Common.{◌≡◌, ℕ, List, [], ◌∷◌, ◌++◌, map, refl, ap, sym, ◌∙◌, append_assoc, append-nil}
use Rattle.c_lexer.specs.Written.{Written, written_text}
use Rattle.c_tree.specs.Words.{Word, word_bytes}
use Rattle.c_tree.specs.Forms.{Form}
use Rattle.c_tree.specs.Tree.{Tree, Trees, Leaf, At, Node, none, ◌▹◌, count}
use Rattle.c_tree.specs.Grammar.{Item, Says, Here, Part, shape}
use Rattle.c_tree.specs.Spelling.{Piece, Said, Line, filled, spell, spell_all, words}
use Rattle.c_tree.specs.Canonical.{separator, written, word_text, words_text, tree_text}

-- the text of a spelling
abbrev pieces_text : List Piece → List ℕ
pieces_text pieces = words_text (words pieces)

words_both : (a b : List Word) → words_text (a ++ b) ≡ words_text a ++ words_text b
unfolding words_text
words_both [] b = refl
words_both (word ∷ a) b =
    ap (λ t. word_bytes word ++ separator word ∷ t) (words_both a b) ∙ sym (append_assoc (word_bytes word) (separator word ∷ words_text a) (words_text b))

words_of_both : (a b : List Piece) → words (a ++ b) ≡ words a ++ words b
words_of_both [] b = refl
words_of_both (Said word ∷ a) b = ap (λ ws. word ∷ ws) (words_of_both a b)
words_of_both (Line line ∷ a) b = words_of_both a b

pieces_both : (a b : List Piece) → pieces_text (a ++ b) ≡ pieces_text a ++ pieces_text b
pieces_both a b = ap words_text (words_of_both a b) ∙ words_both (words a) (words b)

-- the words and parts of a form, written behind a text
abbrev pub write : List Item → Trees → List ℕ → List ℕ
write [] parts out = out
write (Says word ∷ items) parts out = write items parts (out ++ word_text word)
write (Here ∷ items) none out = out
write (Here ∷ items) (At line ▹ rest) out = write items rest out
write (Here ∷ items) (tree ▹ rest) out = write items rest (out ++ tree_text tree)
write (Part place ∷ items) none out = out
write (Part place ∷ items) (tree ▹ rest) out = write items rest (out ++ tree_text tree)

append_in : (out a b c : List ℕ) → a ≡ b ++ c → out ++ a ≡ (out ++ b) ++ c
append_in out a b c h = ap (λ t. out ++ t) h ∙ sym (append_assoc out b c)

says_text : (word : Word) (pieces : List Piece) → pieces_text (Said word ∷ pieces) ≡ word_text word ++ pieces_text pieces
unfolding words_text
says_text word pieces = sym (append_assoc (word_bytes word) (separator word ∷ []) (pieces_text pieces))

-- what a form spells is what is written
filled_written : (items : List Item) (parts : Trees) (out : List ℕ) →
    out ++ pieces_text (filled items (spell_all parts)) ≡ write items parts out
unfolding spell_all spell tree_text words_text
filled_written [] parts out = append-nil out
filled_written (Says word ∷ items) parts out =
    append_in out _ (word_text word) _ (says_text word (filled items (spell_all parts)))
    ∙ filled_written items parts (out ++ word_text word)
filled_written (Here ∷ items) none out = append-nil out
filled_written (Here ∷ items) (At line ▹ rest) out = filled_written items rest out
filled_written (Here ∷ items) (Leaf word ▹ rest) out =
    append_in out _ (tree_text (Leaf word)) _ (pieces_both (spell (Leaf word)) (filled items (spell_all rest)))
    ∙ filled_written items rest (out ++ tree_text (Leaf word))
filled_written (Here ∷ items) (Node form parts ▹ rest) out =
    append_in out _ (tree_text (Node form parts)) _ (pieces_both (spell (Node form parts)) (filled items (spell_all rest)))
    ∙ filled_written items rest (out ++ tree_text (Node form parts))
filled_written (Part place ∷ items) none out = append-nil out
filled_written (Part place ∷ items) (tree ▹ rest) out =
    append_in out _ (tree_text tree) _ (pieces_both (spell tree) (filled items (spell_all rest)))
    ∙ filled_written items rest (out ++ tree_text tree)

-- the text of a node behind a text is what is written
pub node_written : (form : Form) (parts : Trees) (out : List ℕ) →
    out ++ tree_text (Node form parts) ≡ write (shape form (count parts)) parts out
unfolding spell tree_text
node_written form parts out = filled_written (shape form (count parts)) parts out
