pub mod Numbers
pub mod Pieces
pub mod PairLemmas
pub mod Settings
