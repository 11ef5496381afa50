pub mod TopStages
