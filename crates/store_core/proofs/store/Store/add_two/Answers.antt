use Rattle.std.proofs.Common.{rules, [], ◌∷◌, arith}
use Rattle.seg_words.specs.Types.{Shape}
use Rattle.page_map.specs.Fitting.{AreBothFit}
use Rattle.store_core.specs.Adding.{WhyNotBothTaken}
use Rattle.store_core.proofs.Taking.{taken_at, refused_log, not_device, sound_memory, two_fit}
use Rattle.store_core.proofs.Takes.{as_held}
use Rattle.store_core.proofs.store.Store.add_two.Goals as goal

pub returns-in-Ok-clause-put : goal.returns-in-Ok-clause-put
returns-in-Ok-clause-put g c =
    let e = c.in-Ok.ensures in
    record {
      same = record { disk = search rules; loan = search rules; first = search rules; shape = search rules };
      going = search rules;
      taken = taken_at _ c.self.inside.shape _ c.self.inside.log _ _ c.self.inside.pages _ _ c.self.inside.commits _ (c.args.second.now ∷ c.args.first.now ∷ []) _ (search rules) (search rules) (search rules) (search rules)
          (record { list = λ groups R h s. e.list groups R h s.0.1 s.1; pages = e.pages; commits = λ R is few. c.commits_after-self-inside.ensures (c.args.first.now ∷ R) (c.commits_after-between.ensures R is (omega (arith, few))) few; few = omega (arith, e.few); number = e.number; end = e.end; stable = e.stable });
    }

pub returns-in-Err-clause-refused : goal.returns-in-Err-clause-refused
returns-in-Err-clause-refused g c = record {
  same = record { disk = search rules; loan = search rules; first = search rules; shape = search rules };
  log = refused_log _ c.self.inside.log _ (search rules) c.in-Err.ensures.refused;
  pages = search rules;
  commits = search rules;
  fault = c.lasting-self-inside.ensures;
  device = not_device c.in-Err.fault c.in-Err.ensures.device;
}

pub returns-in-Err-clause-sound : goal.returns-in-Err-clause-sound
returns-in-Err-clause-sound g c = λ R h lawful calls.
    let fit = two_fit g.D.Disk.meaning R c.args.first.now c.args.second.now _ c.self.inside.shape c.self.inside.log c.self.inside.pages (search rules) (search rules) (search rules) h lawful calls in
    sound_memory c.in-Err.fault (c.in-Err.ensures.fault fit.first fit.second)

pub returns-in-Ok-clause-fits : goal.returns-in-Ok-clause-fits
returns-in-Ok-clause-fits g c = λ R h.
    as_held g.D.Disk.meaning R c.args.self.now c.self.inside.shape c.self.inside.log c.self.inside.pages (λ (x : Shape). AreBothFit x R c.args.first.now c.args.second.now) (search rules) (search rules) (search rules) (λ n p. c.in-Ok.ensures.fits R n p) h

pub returns-in-Err-clause-unfit : goal.returns-in-Err-clause-unfit
returns-in-Err-clause-unfit g c = λ R h.
    as_held g.D.Disk.meaning R c.args.self.now c.self.inside.shape c.self.inside.log c.self.inside.pages (λ (x : Shape). WhyNotBothTaken x R c.args.first.now c.args.second.now c.in-Err.fault) (search rules) (search rules) (search rules) (λ n p. c.in-Err.ensures.unfit R n p) h
