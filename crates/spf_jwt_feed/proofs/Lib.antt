pub mod LineLemmas
pub mod Loop
pub mod PlainLines
pub mod Received
pub mod ShownLemmas
pub mod TextLemmas
pub mod TurnLemmas
pub mod Turned
