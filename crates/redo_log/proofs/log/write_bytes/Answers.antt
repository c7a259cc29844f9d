use Rattle.redo_log.proofs.log.write_bytes.Goals as goal

pub returns-clause-survives : goal.returns-clause-survives
returns-clause-survives g c since shape groups acknowledged ready lasts =
    let h = c.append.ensures.survives since shape groups acknowledged ready lasts.made lasts.survives in
    record { survives = h.0; made = h.1 }
