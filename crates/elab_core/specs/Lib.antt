pub mod NumbersBy
pub mod StaticsBy
pub mod PlainNames
pub mod Programs
