-- Lists of calls as text
pub mod CallText
-- What the reader's struct and enum say
pub mod Read
