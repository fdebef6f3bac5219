-- tests, branches and places in lists
pub mod Facts
