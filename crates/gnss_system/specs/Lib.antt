pub mod Systems
pub mod SystemValues
pub mod Satellites
pub mod SignalTables
pub mod Signals
