pub mod CellLemmas
pub mod NumberLemmas
pub mod PlaceLemmas
pub mod ValueLemmas
pub mod ReadBackLemmas
pub mod DigitLemmas
pub mod GrammarLemmas
mod FewLemmas
