pub mod Laws
pub mod OrderLaws
pub mod BucketLaws
