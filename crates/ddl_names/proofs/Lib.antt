pub mod Begins
mod BindingRows
mod CuttingRows
pub mod Declared
pub mod Firsts
pub mod Gathering
pub mod Keeping
mod KindRows
pub mod Refusing
pub mod RowForms
mod TwiceRows
