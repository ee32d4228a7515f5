mod Spelling
mod Rows
