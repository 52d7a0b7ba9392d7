-- What is known of binding.
pub mod LawsBinding
