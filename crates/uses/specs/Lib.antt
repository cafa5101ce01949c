pub mod ToldPicture
