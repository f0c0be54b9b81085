pub mod TableLemmas
pub mod TableExamples
pub mod ReaderExamples
pub mod WriterExamples
pub mod SliceExamples
pub mod BufferExamples
pub mod StatusExamples
