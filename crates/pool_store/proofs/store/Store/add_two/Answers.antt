use Rattle.std.proofs.Common.{rules, [], ◌∷◌, arith}
use Rattle.seg_words.specs.Types.{Shape}
use Rattle.store_pages.specs.Fitting.{AreBothFit}
use Rattle.pool_store.specs.Adding.{WhyNotBothTaken}
use Rattle.pool_store.proofs.Taking.{taken_at, read_at, put_at, kept_at, device_at, refused_log, two_fit, sound_of_both}
use Rattle.pool_store.proofs.Takes.{as_true}
use Rattle.pool_store.proofs.store.Store.add_two.Goals as goal

pub returns-in-Ok-clause-put : goal.returns-in-Ok-clause-put
returns-in-Ok-clause-put g c =
    let e = c.in-Ok.ensures in
    record {
      read = read_at g.D.Disk.meaning _ _ c.self.inside.disk.now c.self.inside.pages (search rules) (search rules) (record { loan = search rules; first = search rules; shape = search rules })
          (record { disk = e.disk; faults = e.cause.later; reads = e.reads; same = e.shape });
      going = search rules;
      taken = taken_at _ c.self.inside.log _ _ c.self.inside.commits _ (c.args.second.now ∷ c.args.first.now ∷ []) _ (search rules) (search rules)
          (record { list = λ groups R h s. e.list groups R h s.0.1 s.1; commits = λ R is few. c.commits_after-self-inside.ensures (c.args.first.now ∷ R) (c.commits_after-between.ensures R is (omega (arith, few))) few; few = omega (arith, e.few); number = e.number; end = e.end; stable = e.stable });
      pages = put_at g.D.Disk.meaning _ c.self.inside.disk.now _ c.args.self.now.log c.self.inside.log _ c.self.inside.pages _ (c.args.second.now ∷ c.args.first.now ∷ []) (search rules) (search rules) (search rules) (λ log R m n h. e.pages log R m n h);
    }

pub returns-in-Err-clause-refused : goal.returns-in-Err-clause-refused
returns-in-Err-clause-refused g c =
    let e = c.in-Err.ensures in
    record {
      read = read_at g.D.Disk.meaning _ _ c.self.inside.disk.now c.self.inside.pages (search rules) (search rules) (record { loan = search rules; first = search rules; shape = search rules })
          (record { disk = e.disk; faults = e.cause.later; reads = e.reads; same = e.shape });
      log = refused_log _ c.self.inside.log _ (search rules) e.refused;
      pages = kept_at g.D.Disk.meaning _ c.self.inside.disk.now _ _ c.self.inside.pages _ (search rules) (search rules) (λ log R m h. e.kept log R m h);
      commits = search rules;
      fault = c.lasting-self-inside.ensures;
      device = device_at g.D.Disk.meaning _ c.self.inside.disk.now _ c.in-Err.fault (search rules) e.cause.rose;
    }

pub returns-in-Err-clause-sound : goal.returns-in-Err-clause-sound
returns-in-Err-clause-sound g c = λ R h lawful calls.
    sound_of_both c.args.self.now.shape R c.args.first.now c.args.second.now c.in-Err.fault (two_fit g.D.Disk.meaning R c.args.first.now c.args.second.now c.args.self.now h lawful calls)
    (as_true g.D.Disk.meaning R c.args.self.now c.self.inside.disk.now c.self.inside.log c.self.inside.pages (λ (x : Shape). WhyNotBothTaken x R c.args.first.now c.args.second.now c.in-Err.fault) (search rules) (search rules) (search rules) c.requires.unspent (λ logged m n p. c.in-Err.ensures.unfit logged R m n p) h)

pub returns-in-Ok-clause-fits : goal.returns-in-Ok-clause-fits
returns-in-Ok-clause-fits g c = λ R h.
    as_true g.D.Disk.meaning R c.args.self.now c.self.inside.disk.now c.self.inside.log c.self.inside.pages (λ (x : Shape). AreBothFit x R c.args.first.now c.args.second.now) (search rules) (search rules) (search rules) c.requires.unspent (λ logged m n p. c.in-Ok.ensures.fits logged R m n p) h

pub returns-in-Err-clause-unfit : goal.returns-in-Err-clause-unfit
returns-in-Err-clause-unfit g c = λ R h.
    as_true g.D.Disk.meaning R c.args.self.now c.self.inside.disk.now c.self.inside.log c.self.inside.pages (λ (x : Shape). WhyNotBothTaken x R c.args.first.now c.args.second.now c.in-Err.fault) (search rules) (search rules) (search rules) c.requires.unspent (λ logged m n p. c.in-Err.ensures.unfit logged R m n p) h
