pub mod Exact
mod ColonSlash
mod FirstIndex
mod Ascii
mod Ids
mod Names
mod Parts
mod Rows
