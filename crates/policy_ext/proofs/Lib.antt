mod NumberFacts
mod LackFacts
mod DecimalFacts
pub mod DecimalText
mod IpFacts
mod Ipv4Facts
mod Ipv6Facts
mod RangeFacts
pub mod RangeText
mod RangeTests
mod DurationFacts
mod DateTimeFacts
mod DayFacts
mod NumberTexts
pub mod Readings
