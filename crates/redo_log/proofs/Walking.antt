-- A walk over groups of whole records.
use Rattle.std.proofs.Common.{◌≡◌, ◌≢◌, inl, inr, ℕ, suc, ◌+◌, ◌-◌, ◌^◌, ◌<◌, ◌≤◌, min, List, [], ◌∷◌, ◌++◌, length, take, drop, slice_index, reverse, true, false, Bool, refl, sym, ◌∙◌, ap, subst, arith, length-append, append_assoc, Some, None, Result, Ok, Err, append-nil, length-take, length-drop}
use Rattle.std.specs.Global.{Vec}
use Rattle.seg_words.proofs.Lemmas.{length-reverse}
use Rattle.log_frame.specs.Types.{is_formatted, size_found, wrong, Reading, payload_read, Covers, Passes, IsAdvance, IsBegun}
use Rattle.log_frame.specs.declared.fault.WrongByte.{WrongByte}
use Rattle.log_frame.specs.declared.fault.FrameFault.{FrameFault}
use Rattle.log_frame.specs.declared.log.TheConstants.{GROUP_HEAD_SIZE}
use Rattle.log_frame.specs.declared.fault.FrameFault.TheVariants as frames
use Rattle.log_frame.proofs.Spelled.{open_inside}
use Rattle.redo_record.specs.declared.record.Record.{Record}
use Rattle.redo_log.specs.Faults.{fault_of}
use Rattle.redo_log.specs.Kept.{Kept, spelled, AreSpelled, last_number, HasRecords, HasList, Holds}
use Rattle.redo_log.specs.Groups.{Between, Walked, Breaks, BadPayload, IsWrong}
use Rattle.redo_log.specs.Found.{IsMore, IsAdded, WalkEnds, WalkBreaks, Stops, IsCounted, IsOpening, IsFound, AreAll, IsReadFrom}
use Rattle.redo_log.specs.declared.fault.LogFault.{LogFault}
use Rattle.redo_log.specs.declared.fault.LogFault.TheVariants.{DeviceFault, NotOpen, BadLog, NoMemory}

between_more : (file : List ℕ) (from gate : ℕ) (groups : List (List ℕ)) (group : List ℕ) → Between file from groups gate → size_found file gate ≡ Ok (Some (length group)) → take (length group) (drop (gate + GROUP_HEAD_SIZE) file) ≡ group → Between file from (groups ++ group ∷ []) (gate + GROUP_HEAD_SIZE + length group)
between_more file from gate [] group at found same = (
  ap (size_found file) (sym at) ∙ found,
  ap (λ (n : ℕ). take (length group) (drop (n + GROUP_HEAD_SIZE) file)) (sym at) ∙ same,
  ap (λ (n : ℕ). n + GROUP_HEAD_SIZE + length group) at,
)
between_more file from gate (g ∷ groups) group (f, s, rest) found same = (f, s, between_more file (from + GROUP_HEAD_SIZE + length g) gate groups group rest found same)

pub holds_more : (groups : List (List ℕ)) (R0 R newer : List Record) (payload : List ℕ) → Holds groups R0 R → payload ≡ spelled newer → AreSpelled newer → Holds (groups ++ payload ∷ []) R0 (newer ++ R)
holds_more [] R0 R newer payload h e s = (newer, e, s, ap (λ (x : List Record). newer ++ x) h)
holds_more (g ∷ groups) R0 R newer payload h e s = (h.0, h.1, h.2, holds_more groups (h.0 ++ R0) R newer payload h.3 e s)

pub no_group : (file : List ℕ) (from : ℕ) (R0 : List Record) → Walked file from from R0 R0
no_group file from R0 = record { groups = []; between = refl; holds = refl }

-- the payload that was read has its length
payload_long : (file : List ℕ) (gate : ℕ) (r : Reading) → Passes file gate r → length (payload_read r) ≡ r.size
payload_long file gate r passes =
    let inside = (open_inside file gate r.size passes.found).1 in
    omega (arith, ap (λ (l : List ℕ). length l) passes.payload, length-take r.size (drop (gate + GROUP_HEAD_SIZE) file), length-drop (gate + GROUP_HEAD_SIZE) file, inside)

pub one_group : (file : List ℕ) (from gate : ℕ) (r : Reading) (R0 R new : List Record) → Walked file from gate R0 R → Passes file gate r → IsMore (payload_read r) [] new → Walked file from r.next R0 (new ++ R)
one_group file from gate r R0 R new walked passes more =
    let group = payload_read r in
    let long = payload_long file gate r passes in
    let same : new ≡ more.newer = more.is ∙ append-nil more.newer in
    record {
      groups = walked.groups ++ group ∷ [];
      between = subst (λ (n : ℕ). Between file from (walked.groups ++ group ∷ []) n) (omega (arith, passes.next, long))
          (between_more file from gate walked.groups group walked.between (passes.found ∙ ap (λ (n : ℕ). Ok (Some n)) (sym long)) (ap (λ (n : ℕ). take n (drop (gate + GROUP_HEAD_SIZE) file)) long ∙ sym passes.payload));
      holds = subst (λ (l : List Record). Holds (walked.groups ++ group ∷ []) R0 (l ++ R)) (sym same) (holds_more walked.groups R0 R more.newer group walked.holds more.whole more.spells);
    }

-- the groups so far: a list, the gate that comes next, the number of the last record
pub record Counting (file : List ℕ) (from : ℕ) (R0 : List Record) (r : Reading) (count : ℕ) : Type 0 where
  pub R : List Record
  pub walked : Walked file from r.next R0 R
  pub covers : Covers file r
  pub count_is : count ≡ last_number R

pub counting_begins : (file : List ℕ) (R0 : List Record) (r : Reading) (count : ℕ) → Covers file r → count ≡ last_number R0 → Counting file r.next R0 r count
counting_begins file R0 r count covers is = record { R = R0; walked = no_group file r.next R0; covers = covers; count_is = is }

pub count_shut : (file : List ℕ) (from gate next : ℕ) (R0 R : List Record) (count : ℕ) → Walked file from gate R0 R → (size_found file gate ≡ Ok None) × (next ≡ gate) → count ≡ last_number R → IsCounted file from R0 next (Ok count)
count_shut file from gate next R0 R count walked shut is = (R, record { walked = subst (λ (n : ℕ). Walked file from n R0 R) (sym shut.1) walked; shut = ap (size_found file) shut.1 ∙ shut.0 }, is)

pub frame_breaks : (file : List ℕ) (from gate : ℕ) (r : Reading) (R0 R : List Record) (fault : FrameFault) (answer : LogFault) → answer ≡ fault_of fault → Walked file from gate R0 R → IsAdvance file gate r (Err fault) → Stops file from R0 answer
frame_breaks file from gate r R0 R fault answer same walked is = subst (Stops file from R0) (sym same) (by fault is)
  where
    by : (fault : FrameFault) → IsAdvance file gate r (Err fault) → Stops file from R0 (fault_of fault)
    by frames.DeviceFault is = tt
    by frames.NotOpen is = is
    by (frames.BadFrame offset seen) is = record { at = gate; R = R; walked = walked; is = inl is }
    by frames.NoMemory is = tt

pub payload_breaks : (file : List ℕ) (from gate : ℕ) (r : Reading) (R0 R old new : List Record) (fault : LogFault) → Walked file from gate R0 R → Passes file gate r → IsAdded (payload_read r) (r.next - r.size) old new (Err fault) → Stops file from R0 fault
payload_breaks file from gate r R0 R old new DeviceFault walked passes is = tt
payload_breaks file from gate r R0 R old new NotOpen walked passes is = is
payload_breaks file from gate r R0 R old new (BadLog offset seen) walked passes is = record {
  at = gate;
  R = R;
  walked = walked;
  is = inr (record {
    size = r.size;
    framed = passes.found;
    place = is.0;
    breaks = subst (λ (l : List ℕ). Breaks l is.0) passes.payload is.1;
    offset = omega (arith, is.2, passes.next);
    seen = is.3 ∙ ap (λ (l : List ℕ). slice_index l is.0) passes.payload;
  });
}
payload_breaks file from gate r R0 R old new NoMemory walked passes is = tt

-- the number of the last record, with those of one group more
more_counted : (R new items : List Record) (old count size : ℕ) → old ≡ last_number R → size ≡ length new → count ≡ min (old + size) (2 ^ 64 - 1) → count ≡ last_number (new ++ R)
more_counted R new items old count size was sized is = omega (arith, was, sized, is, length-append new R)

pub counting_more : (file : List ℕ) (from : ℕ) (R0 : List Record) (old new : Reading) (count more : ℕ) (cleared items : List Record) → Counting file from R0 old count → Passes file old.next new → cleared ≡ [] → IsMore (payload_read new) (reverse cleared) (reverse items) → more ≡ min (count + length items) (2 ^ 64 - 1) → Counting file from R0 new more
counting_more file from R0 old new count more cleared items so_far passes none added is =
    let added_to : IsMore (payload_read new) [] (reverse items) = subst (λ (l : List Record). IsMore (payload_read new) l (reverse items)) (ap reverse none) added in
    record {
      R = reverse items ++ so_far.R;
      walked = one_group file from old.next new R0 so_far.R (reverse items) so_far.walked passes added_to;
      covers = passes.covers;
      count_is = more_counted so_far.R (reverse items) items count more (length items) so_far.count_is (sym (length-reverse items)) is;
    }

-- what going on said of the file as it was at the start
pub advanced : (file later : List ℕ) (gate : ℕ) (old new : Reading) (result : Result Bool FrameFault) → later ≡ file → Covers file old → (Covers later old → IsAdvance later gate new result) → IsAdvance file gate new result
advanced file later gate old new result same covers goes = subst (λ (l : List ℕ). IsAdvance l gate new result) same (goes (subst (λ (l : List ℕ). Covers l old) (sym same) covers))

pub went_on : (file : List ℕ) (gate : ℕ) (r : Reading) (more : Bool) → more ≡ true → IsAdvance file gate r (Ok more) → Passes file gate r
went_on file gate r more test is = subst (λ (b : Bool). IsAdvance file gate r (Ok b)) test is

pub was_shut : (file : List ℕ) (gate : ℕ) (r : Reading) (more : Bool) → more ≡ false → IsAdvance file gate r (Ok more) → (size_found file gate ≡ Ok None) × (r.next ≡ gate)
was_shut file gate r more test is = subst (λ (b : Bool). IsAdvance file gate r (Ok b)) test is

-- the groups so far, and all their records
pub record Gathered (file : List ℕ) (from : ℕ) (r : Reading) (items : List Record) : Type 0 where
  pub walked : Walked file from r.next [] (reverse items)
  pub covers : Covers file r

pub gathering_begins : (file : List ℕ) (r : Reading) (items : List Record) → Covers file r → items ≡ [] → Gathered file r.next r items
gathering_begins file r items covers none = record { walked = subst (λ (l : List Record). Walked file r.next r.next [] (reverse l)) (sym none) (no_group file r.next []); covers = covers }

pub gathering_more : (file : List ℕ) (from : ℕ) (old new : Reading) (items more : List Record) → Gathered file from old items → Passes file old.next new → IsMore (payload_read new) (reverse items) (reverse more) → Gathered file from new more
gathering_more file from old new items more so_far passes added = record {
  walked = subst (λ (l : List Record). Walked file from new.next [] l) (sym added.is)
      (one_group file from old.next new [] (reverse items) added.newer so_far.walked passes (record { newer = added.newer; whole = added.whole; spells = added.spells; is = sym (append-nil added.newer) }));
  covers = passes.covers;
}

pub gathered_all : (file : List ℕ) (from gate : ℕ) (items : List Record) → Walked file from gate [] (reverse items) → size_found file gate ≡ Ok None → AreAll file from items
gathered_all file from gate items walked shut = record { at = gate; ends = record { walked = walked; shut = shut } }

-- what an opening answers
pub opens : (file : List ℕ) (from end : ℕ) (R0 : List Record) (count : ℕ) (log : Kept) → is_formatted file ≡ true → IsCounted file from R0 end (Ok count) → log.end ≡ end → log.stable ≡ count → log.count ≡ count → log.waiting.bytes ≡ [] → IsOpening file from R0 (Ok log)
opens file from end R0 count log formed counted at stable all none =
    let walked = counted.1.walked in (
      formed,
      record {
        R = counted.0;
        groups = walked.groups;
        between = subst (λ (n : ℕ). Between file from walked.groups n) (sym at) walked.between;
        shut = ap (size_found file) at ∙ counted.1.shut;
        holds = walked.holds;
        list = record {
          has = record { newer = []; older = counted.0; split = refl; stable = stable ∙ counted.2; count = all ∙ counted.2; bytes = none; spelled = tt };
          holds = walked.holds;
        };
        none = none;
      },
    )

pub stops_opening : (file : List ℕ) (from : ℕ) (R0 : List Record) (fault : LogFault) → is_formatted file ≡ true → Stops file from R0 fault → IsOpening file from R0 (Err fault)
stops_opening file from R0 DeviceFault formed is = tt
stops_opening file from R0 NotOpen formed is = absurd is
stops_opening file from R0 (BadLog offset seen) formed is = (formed, is)
stops_opening file from R0 NoMemory formed is = tt

pub begins_not : (file : List ℕ) (from : ℕ) (R0 : List Record) (fault : FrameFault) (answer : LogFault) → answer ≡ fault_of fault → IsBegun file from (Err fault) → IsOpening file from R0 (Err answer)
begins_not file from R0 fault answer same is = subst (λ (f : LogFault). IsOpening file from R0 (Err f)) (sym same) (by fault is)
  where
    by : (fault : FrameFault) → IsBegun file from (Err fault) → IsOpening file from R0 (Err (fault_of fault))
    by frames.DeviceFault is = tt
    by frames.NotOpen is = is
    by (frames.BadFrame offset seen) is = absurd is
    by frames.NoMemory is = tt

pub counted_here : (file later : List ℕ) (from : ℕ) (r : Reading) (next : ℕ) (R0 : List Record) (result : Result ℕ LogFault) → later ≡ file → Covers file r → r.next ≡ from → (Covers later r → IsCounted later r.next R0 next result) → IsCounted file from R0 next result
counted_here file later from r next R0 result same covers at counted =
    subst (λ (n : ℕ). IsCounted file n R0 next result) at (subst (λ (l : List ℕ). IsCounted l r.next R0 next result) same (counted (subst (λ (l : List ℕ). Covers l r) (sym same) covers)))

pub read_here : (file later : List ℕ) (at : ℕ) (r : Reading) (result : Result (Vec Record) LogFault) → later ≡ file → Covers file r → r.next ≡ at → (Covers later r → IsReadFrom later r.next result) → IsReadFrom file at result
read_here file later at r result same covers here read =
    subst (λ (n : ℕ). IsReadFrom file n result) here (subst (λ (l : List ℕ). IsReadFrom l r.next result) same (read (subst (λ (l : List ℕ). Covers l r) (sym same) covers)))

pub not_begun : (file : List ℕ) (at : ℕ) (fault : FrameFault) (answer : LogFault) → answer ≡ fault_of fault → fault ≡ frames.DeviceFault → IsReadFrom file at (Err answer)
not_begun file at fault answer same device = subst (Stops file at []) (sym (same ∙ ap fault_of device)) tt
