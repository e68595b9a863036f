-- Whole texts: answered in a lent buffer, or while they are read (document 01, sections 'Text' and 'A run, whole').
pub mod Ends
pub mod Running
pub mod Putting
pub mod Sending
pub mod Streaming
pub mod Whole
pub mod Inner
-- laws
pub mod LineLaws
pub mod RunningLaws
pub mod ShowLaws
pub mod StreamLaws
pub mod WholeLaws
pub mod StartLaws
