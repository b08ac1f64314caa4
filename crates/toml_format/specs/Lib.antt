pub mod Skeleton
