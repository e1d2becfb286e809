pub mod PutBack
