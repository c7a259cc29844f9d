use Rattle.std.proofs.Common.{subst}
use Rattle.store_core.proofs.Lookups.{looked_memory, looked_ok}
use Rattle.scan_table.specs.Listing.{FormattedAt}
use Rattle.scan_table.proofs.Locating.{none_added, one_added}
use Rattle.scan_table.proofs.listing.add_block.Goals as goal

pub returns-in-Ok-None-clause-looked : goal.returns-in-Ok-None-clause-looked
returns-in-Ok-None-clause-looked g c = looked_ok g.D.Disk.meaning c.args.store.now c.formatted_at.new.store c.in-Ok-None.field-0 _ c.in-Ok-None.ensures.looked

pub returns-in-Ok-None-clause-says : goal.returns-in-Ok-None-clause-says
returns-in-Ok-None-clause-says g c = λ R o position t h w. none_added c.args.listing.now.shape R o position c.args.blocks.now (subst (FormattedAt c.args.listing.now.shape R o position) c.in-Ok-None.field-0-is (c.in-Ok-None.ensures.says R o position t h w))

pub returns-in-Ok-clause-looked : goal.returns-in-Ok-clause-looked
returns-in-Ok-clause-looked g c = looked_ok g.D.Disk.meaning c.args.store.now c.formatted_at.new.store c.in-Ok-Some.field-0 _ c.in-Ok-Some.ensures.looked

pub returns-in-Ok-clause-says : goal.returns-in-Ok-clause-says
returns-in-Ok-clause-says g c = λ R o position t h w. one_added c.args.listing.now.shape R o position c.in-Ok-Some.dba c.args.blocks.now c.push.new.self (subst (FormattedAt c.args.listing.now.shape R o position) c.in-Ok-Some.field-0-is (c.in-Ok-Some.ensures.says R o position t h w)) c.in-Ok.ensures.ok

pub returns-in-Err-push-clause-looked : goal.returns-in-Err-push-clause-looked
returns-in-Err-push-clause-looked g c = looked_memory g.D.Disk.meaning c.args.store.now c.formatted_at.new.store c.in-Ok-Some.field-0 c.in-Ok-Some.ensures.looked
