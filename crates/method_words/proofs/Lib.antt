-- Laws of commands and content headers as words.
pub mod CommandLaws
pub mod CallLaws
pub mod PutLaws
pub mod InWordsLaws
pub mod PickLaws
