pub mod PaceLemmas
