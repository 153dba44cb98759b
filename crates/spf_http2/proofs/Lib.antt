pub mod HeaderLemmas
pub mod Parts
pub mod SettingLemmas
pub mod KnownLemmas
pub mod CutLemmas
