use Rattle.version_read.proofs.Answering.{part_goes}
use Rattle.version_read.specs.Walking.{txn_or_none}
use Rattle.version_read.proofs.Stepping.{used_block}
use Rattle.version_read.proofs.chain.page_leads.Goals as goal

pub returns-in-None-clause-leads : goal.returns-in-None-clause-leads
returns-in-None-clause-leads g c = λ sh R b k n most h t w.
    let z = c.in-None.ensures.there sh R h (used_block sh R b k c.args.s (txn_or_none c.args.own.now) n most c.args.at w.leads) in absurd cc

pub returns-in-Some-clause-leads : goal.returns-in-Some-clause-leads
returns-in-Some-clause-leads g c = λ sh R b k n most h t w.
    part_goes sh R b k c.args.s n most c.args.own.now c.args.table.now c.in-Some.block.now c.args.at c.args.more c.part_leads.result w.reader t
    (c.in-Some.ensures.page sh R h) w.leads w.else_all c.part_leads.ensures.leads
