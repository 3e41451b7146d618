-- What the steps of demand 3's proof speak of: nothing here needs to be read to know what is claimed
pub mod Lists
pub mod Trees
