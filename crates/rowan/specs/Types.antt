-- The types of the crates below, for patterns and signatures in definitions of one's own: with
-- `use Rattle.rowan.specs.Types.NodeOrToken.TheVariants.{Node, Token}` a definition has a case for
-- each.
pub use Rattle.rowan_builder.specs.declared.builder.GreenNodeBuilder
pub use Rattle.rowan_builder.specs.declared.builder.Unfinished
pub use Rattle.rowan_green.specs.declared.fault.Fault
pub use Rattle.rowan_green.specs.declared.utility_types.Direction
pub use Rattle.rowan_green.specs.declared.utility_types.NodeOrToken
pub use Rattle.rowan_green.specs.declared.utility_types.TokenAtOffset
pub use Rattle.rowan_green.specs.declared.utility_types.WalkEvent
