pub mod ShortSubwords
pub mod SubwordRows
