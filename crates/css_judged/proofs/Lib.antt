pub mod MainReplies
pub mod MainTapes
pub mod NearObjects
pub mod CallWindows
pub mod FarStores
