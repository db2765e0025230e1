pub mod Durations
pub mod Names
pub mod Places
pub mod TimerLaws
pub mod Timers
