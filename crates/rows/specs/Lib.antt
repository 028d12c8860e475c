-- Worked cases of document 02, as rows of checked tables: from the bytes of a file, by the operations that a host calls. Each request has a few rows among
-- the definition's own (`definition: ChangeRequests`, `Rounding`); here is the whole of them.
pub mod Fields
pub mod StringRows
pub mod Voids
pub mod CellPairs
pub mod HouseLimits
