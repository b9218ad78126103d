pub mod WideningLaws
