pub mod Id
pub mod Rule
