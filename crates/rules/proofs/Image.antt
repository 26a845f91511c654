-- Laws of images: lists cut into parts, what an accepted frame says, the image of a list of records, and the records of an image.
pub mod Parts
pub mod Frame
pub mod Block
pub mod Written
pub mod Read
