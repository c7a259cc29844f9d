-- Reading so many values one after the other, as a loop does.
use Rattle.std.proofs.Common.{◌≡◌, ℕ, suc, ◌-◌, ◌+◌, ◌≤◌, ◌<◌, List, [], ◌∷◌, ◌++◌, length, Option, Some, None, Result, Err, refl, sym, ap, ◌∙◌, append_assoc, arith, append-nil, length-append}
use Rattle.std.specs.Global.{Vec}
use Rattle.redo_record.specs.Types.{ReadFault, Reader, ◌>>=◌, many, Reads, ReadsItems}
use Rattle.redo_record.specs.declared.fault.ReadFault.TheVariants as faults

-- what was read before, and what is still read
abbrev pub with_front : {A : Type 0} → List A → Option (List A × List ℕ) → Option (List A × List ℕ)
with_front front read = read >>= λ x. Some (front ++ x.0, x.1)

-- a loop over count values has read the front, and the rest stands before it
pub record Going {A : Type 0} (r : Reader A) (count i : ℕ) (front : List A) (rest start : List ℕ) : Type 0 where
  pub same : with_front front (many r (count - i) rest) ≡ many r count start
  pub long : length front ≡ i

regroup : {A : Type 0} (front : List A) (x : A) (read : Option (List A × List ℕ)) → with_front front (read >>= λ xs. Some (x ∷ xs.0, xs.1)) ≡ with_front (front ++ x ∷ []) read
regroup {A} front x (Some xs) = ap (λ (ys : List A). Some (ys, xs.1)) (sym (append_assoc front (x ∷ []) xs.0))
regroup front x None = refl

after_nothing : {A : Type 0} (read : Option (List A × List ℕ)) → with_front [] read ≡ read
after_nothing (Some xs) = refl
after_nothing None = refl

pub begins : {A : Type 0} (r : Reader A) (count : ℕ) (start : List ℕ) → Going r count 0 [] start start
begins r count start =
    let k : count - 0 ≡ count = omega arith in
    record { same = rw k (after_nothing (many r count start)); long = refl }

step : {A : Type 0} (r : Reader A) (n k : ℕ) (bytes : List ℕ) → k ≡ suc n → many r k bytes ≡ (r bytes >>= λ x. many r n x.1 >>= λ xs. Some (x.0 ∷ xs.0, xs.1))
step r n k bytes e = rw e refl

pub goes_on : {A : Type 0} (r : Reader A) (count i : ℕ) (front front' : List A) (rest after start : List ℕ) (x : A) → i < count → r rest ≡ Some (x, after) → front' ≡ front ++ x ∷ [] → Going r count i front rest start → Going r count (i + 1) front' after start
goes_on {A} r count i front front' rest after start x lt read more going =
    let k : count - i ≡ suc (count - (i + 1)) = omega arith in
    let one : with_front front (many r (count - i) rest) ≡ with_front front (r rest >>= λ y. many r (count - (i + 1)) y.1 >>= λ xs. Some (y.0 ∷ xs.0, xs.1)) = ap (with_front front) (step r (count - (i + 1)) (count - i) rest k) in
    let two : with_front front (r rest >>= λ y. many r (count - (i + 1)) y.1 >>= λ xs. Some (y.0 ∷ xs.0, xs.1)) ≡ with_front (front ++ x ∷ []) (many r (count - (i + 1)) after) = rw read (regroup front x (many r (count - (i + 1)) after)) in
    record { same = ap (λ (f : List A). with_front f (many r (count - (i + 1)) after)) more ∙ sym two ∙ sym one ∙ going.same; long = omega (arith, ap length more, length-append front (x ∷ []), going.long) }

stops : {A : Type 0} (r : Reader A) (count i : ℕ) (front : List A) (rest start : List ℕ) → i < count → r rest ≡ None → Going r count i front rest start → many r count start ≡ None
stops {A} r count i front rest start lt read going =
    let k : count - i ≡ suc (count - (i + 1)) = omega arith in
    let one : with_front front (many r (count - i) rest) ≡ None = ap (with_front front) (step r (count - (i + 1)) (count - i) rest k) ∙ rw read refl in
    sym going.same ∙ one

pub fails : {A : Type 0} (r : Reader A) (count i : ℕ) (front : List A) (rest start left left' : List ℕ) (e : ReadFault) (x : Result A ReadFault) (v : Result (Vec A) ReadFault) → i < count → x ≡ Err e → v ≡ Err e → Reads x left (r rest) → Going r count i front rest start → ReadsItems v left' (many r count start)
fails r count i front rest start left left' faults.NotARecord x v lt is is' reads going = rw is' (stops r count i front rest start lt (rw is at reads) going)
fails r count i front rest start left left' faults.NoMemory x v lt is is' reads going = rw is' tt

pub is_done : {A : Type 0} (r : Reader A) (count i : ℕ) (front : List A) (rest start : List ℕ) → count ≤ i → Going r count i front rest start → many r count start ≡ Some (front, rest)
is_done {A} r count i front rest start le going =
    let k : count - i ≡ 0 = omega arith in
    let one : with_front front (many r (count - i) rest) ≡ Some (front, rest) = rw k (ap (λ (xs : List A). Some (xs, rest)) (append-nil front)) in
    sym going.same ∙ one
