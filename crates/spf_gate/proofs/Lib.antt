pub mod CutLemmas
mod FirstFeed
mod PolicyLemmas
mod ServeLemmas
mod Taking
