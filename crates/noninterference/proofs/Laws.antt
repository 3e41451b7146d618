-- The steps of demand 3's proof: nothing here needs to be read to know what is claimed
pub mod Lists
pub mod Answers
pub mod Numbers
pub mod Trees
pub mod Players
pub mod Output
