mod Lists
mod Sixteen
