-- All words of this crate's specs, one line a file, for crates above it.
pub use Rattle.usage_laws.specs.Named.{insert_number, is_over, with_named, with_writer, with_slots, with_entries, ended_named, is_known, names_known}
pub use Rattle.usage_laws.specs.Drafts.{drafted_clean, calls_for_clean, with_clean, ruled_class, class_with, reclassed, class_to, drafted_class, calls_for_class, with_class, settled, NeedsNothing}
pub use Rattle.usage_laws.specs.Settling.{CleansAreAllowed, CleansAreOne, ClassesAreAllowed, ClassesAreOne, SettledIsLawful, CallsFor, CallsMean, CallsAreMeant, SettledNeedsNothing, SettledOnly, SettledStays, SettledBlock, SettledBlocks, SettledAdds, SettledAddsWhat, SettlesOnce, SettledAgain}
pub use Rattle.usage_laws.specs.Told.{number_in, stated_by, SettlingTold, SettlingsAreTold}
pub use Rattle.usage_laws.specs.Bests.{ClassTold, ClassesAreTold}
pub use Rattle.usage_laws.specs.Worked.{SettledRight}
