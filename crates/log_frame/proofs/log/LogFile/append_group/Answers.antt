use Rattle.std.proofs.Common.{◌≡◌, ◌+◌, ◌++◌, ℕ, List, [], ◌∷◌, subst, arith, refl}
use Rattle.disk_model.specs.Types.{written, Torn, IsPut, OnlyFile, Leaves}
use Rattle.disk_model.specs.declared.disk.File.TheVariants.{Log}
use Rattle.log_frame.proofs.Append.{room, first_run, group_staged, second_run, added, room_after}
use Rattle.log_frame.proofs.log.LogFile.append_group.Goals as goal

pub returns-in_err-write_framed_and_sync-clause-any_moment : goal.returns-in_err-write_framed_and_sync-clause-any_moment
returns-in_err-write_framed_and_sync-clause-any_moment g c shape groups ready =
    let meaning = g.D.Disk.meaning in
    let d0 = c.args.disk.now in
    let end = c.args.self.now in
    let payload = c.args.payload.now in
    let at = c.saturating_add-start.result in
    let short = g.met.D.Disk.short d0 (meaning.clock d0) (meaning.files d0) (g.met.D.Disk.as_read d0 ready.settled.told) in
    let place : at ≡ end + 1 = omega (arith, room meaning d0 shape groups payload end ready short, c.saturating_add-start.ensures, c.self.view_is) in
    let d1 = c.write_framed_and_sync.new.disk in
    first_run meaning d0 shape groups payload end ready d1 at _ place (c.write_framed_and_sync.ensures.any_moment ready.settled)

pub returns-in_err-write_and_sync-clause-any_moment : goal.returns-in_err-write_and_sync-clause-any_moment
returns-in_err-write_and_sync-clause-any_moment g c shape groups ready =
    let meaning = g.D.Disk.meaning in
    let d0 = c.args.disk.now in
    let end = c.args.self.now in
    let payload = c.args.payload.now in
    let at = c.saturating_add-start.result in
    let short = g.met.D.Disk.short d0 (meaning.clock d0) (meaning.files d0) (g.met.D.Disk.as_read d0 ready.settled.told) in
    let place : at ≡ end + 1 = omega (arith, room meaning d0 shape groups payload end ready short, c.saturating_add-start.ensures, c.self.view_is) in
    let d1 = c.write_framed_and_sync.new.disk in
    let old = (meaning.files d0).log_bytes in
    let put = subst (λ (s : List ℕ). IsPut meaning d0 d1 Log (written old at (s ++ payload ++ 0 ∷ []))) c.to_be_bytes-size.ensures (c.in_ok-write_framed_and_sync.ensures.put ready.settled) in
    let stage = group_staged meaning d0 shape groups payload end ready d1 at place put in
    let so_far = first_run meaning d0 shape groups payload end ready d1 at _ place (c.write_framed_and_sync.ensures.any_moment ready.settled) in
    let leaves = subst (λ (n : ℕ). Leaves meaning d1 c.write_and_sync.new.disk (OnlyFile meaning d1 Log (Torn n 1 (meaning.files d1).log_bytes))) c.self.view_is (c.write_and_sync.ensures.any_moment stage.settled) in
    second_run meaning d0 shape groups payload end ready d1 c.write_and_sync.new.disk c.requires stage so_far leaves

pub returns-clause-any_moment : goal.returns-clause-any_moment
returns-clause-any_moment g c shape groups ready =
    let meaning = g.D.Disk.meaning in
    let d0 = c.args.disk.now in
    let end = c.args.self.now in
    let payload = c.args.payload.now in
    let at = c.saturating_add-start.result in
    let short = g.met.D.Disk.short d0 (meaning.clock d0) (meaning.files d0) (g.met.D.Disk.as_read d0 ready.settled.told) in
    let place : at ≡ end + 1 = omega (arith, room meaning d0 shape groups payload end ready short, c.saturating_add-start.ensures, c.self.view_is) in
    let d1 = c.write_framed_and_sync.new.disk in
    let old = (meaning.files d0).log_bytes in
    let put = subst (λ (s : List ℕ). IsPut meaning d0 d1 Log (written old at (s ++ payload ++ 0 ∷ []))) c.to_be_bytes-size.ensures (c.in_ok-write_framed_and_sync.ensures.put ready.settled) in
    let stage = group_staged meaning d0 shape groups payload end ready d1 at place put in
    let so_far = first_run meaning d0 shape groups payload end ready d1 at _ place (c.write_framed_and_sync.ensures.any_moment ready.settled) in
    let leaves = subst (λ (n : ℕ). Leaves meaning d1 c.write_and_sync.new.disk (OnlyFile meaning d1 Log (Torn n 1 (meaning.files d1).log_bytes))) c.self.view_is (c.write_and_sync.ensures.any_moment stage.settled) in
    second_run meaning d0 shape groups payload end ready d1 c.write_and_sync.new.disk c.requires stage so_far leaves

pub returns-clause-added : goal.returns-clause-added
returns-clause-added g c shape groups ready =
    let meaning = g.D.Disk.meaning in
    let d0 = c.args.disk.now in
    let end = c.args.self.now in
    let payload = c.args.payload.now in
    let at = c.saturating_add-start.result in
    let short = g.met.D.Disk.short d0 (meaning.clock d0) (meaning.files d0) (g.met.D.Disk.as_read d0 ready.settled.told) in
    let place : at ≡ end + 1 = omega (arith, room meaning d0 shape groups payload end ready short, c.saturating_add-start.ensures, c.self.view_is) in
    let d1 = c.write_framed_and_sync.new.disk in
    let old = (meaning.files d0).log_bytes in
    let put = subst (λ (s : List ℕ). IsPut meaning d0 d1 Log (written old at (s ++ payload ++ 0 ∷ []))) c.to_be_bytes-size.ensures (c.in_ok-write_framed_and_sync.ensures.put ready.settled) in
    let stage = group_staged meaning d0 shape groups payload end ready d1 at place put in
    let d2 = c.write_and_sync.new.disk in
    let gate = subst (λ (n : ℕ). IsPut meaning d1 d2 Log (written (meaning.files d1).log_bytes n (1 ∷ []))) c.self.view_is (c.in_ok-write_and_sync.ensures.put stage.settled) in
    let told = (added meaning d0 shape groups payload end ready d1 d2 c.requires stage _ refl gate).ready.settled.told in
    let short2 = g.met.D.Disk.short d2 (meaning.clock d2) (meaning.files d2) (g.met.D.Disk.as_read d2 told) in
    let fits = room_after meaning d0 shape groups payload end ready d1 d2 c.requires stage gate short2 in
    added meaning d0 shape groups payload end ready d1 d2 c.requires stage _ (omega (arith, place, fits, c.saturating_add-self-inside.ensures)) gate
