pub mod ManyNodeLaws
