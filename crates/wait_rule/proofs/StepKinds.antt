-- Each kind of step keeps the law.
pub mod TaskBits
pub mod TaskKinds
pub mod HoldWalks
pub mod HeadKinds
pub mod EntryKinds
pub mod FlagKinds
pub mod MarkKinds
pub mod CondKinds
pub mod CountKinds
pub mod BitKinds
pub mod PageKinds
