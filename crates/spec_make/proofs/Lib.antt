pub mod RuleLaws
pub mod MapLaws
pub mod PageLaws
pub mod FileLaws
