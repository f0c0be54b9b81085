mod HeaderLaws
mod LexLaws
mod NumberLaws
mod WordTable
