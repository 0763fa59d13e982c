pub mod BytesLaws
pub mod RulesLaws
pub mod ItemLaws
