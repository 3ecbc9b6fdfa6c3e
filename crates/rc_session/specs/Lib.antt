-- the lines of replies, the state of a session and what its commands say
pub mod Replies
pub mod Sessions
-- why a session is cut off, and what is known of sessions
pub mod Cuts
pub mod Laws
