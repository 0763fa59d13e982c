pub mod GatheringLaws
