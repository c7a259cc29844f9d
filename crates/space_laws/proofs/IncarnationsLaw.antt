-- Incarnations of extents.
use Rattle.std.proofs.Common.{◌≡◌, ◌⊎◌, ℕ, zero, suc, ◌<◌, ◌≤◌, true, false, cond, eqb, List, [], ◌∷◌, ◌++◌, length, take, Option, Some, None, refl, sym, ap, arith, inl, inr, le_trans}
use Rattle.redo_model.specs.Records.{Record, Extend, Lower}
use Rattle.redo_model.specs.Model.{Extends, Extent, extents_of, extent_at}
use Rattle.redo_model.specs.Lists.{same, more}
use Rattle.redo_laws.proofs.lists.Prefixes.{extends_length}
use Rattle.space_laws.specs.Incarnations.{IncarnationsTell}

none_at : (P : Type 0) (e : Extent) → ◌≡◌ {A = Option Extent} None (Some e) → P
none_at P e h = absurd cc

at_below : (es : List Extent) (i : ℕ) (e : Extent) → extent_at es i ≡ Some e → i < length es
at_below [] i e h = none_at _ e h
at_below (x ∷ es) zero e h = omega arith
at_below (x ∷ es) (suc i) e h = let l = at_below es i e h in omega (arith, l)

pub at_added : (es : List Extent) (x : Extent) (i : ℕ) (e : Extent) → extent_at (es ++ x ∷ []) i ≡ Some e → (extent_at es i ≡ Some e) ⊎ ((i ≡ length es) × (x ≡ e))
at_added [] x zero e h = inr (refl, (let same : x ≡ e = cc in same))
at_added [] x (suc i) e h = none_at _ e h
at_added (y ∷ es) x zero e h = inl h
at_added (y ∷ es) x (suc i) e h = elim (at_added es x i e h) [ inl z ↦ inl z | inr z ↦ inr ((let q = z.0 in omega (arith, q)), z.1) ]

pub at_in_taken : (k : ℕ) (es : List Extent) (i : ℕ) (e : Extent) → extent_at (take k es) i ≡ Some e → (extent_at es i ≡ Some e) × (i < k)
at_in_taken zero es i e h = none_at _ e h
at_in_taken (suc k) [] i e h = none_at _ e h
at_in_taken (suc k) (x ∷ es) zero e h = (h, omega arith)
at_in_taken (suc k) (x ∷ es) (suc i) e h = let q = at_in_taken k es i e h in (q.0, (let l = q.1 in omega (arith, l)))

-- incarnations of at most n, that rise
pub record Rising (es : List Extent) (n : ℕ) : Type 0 where
  pub most : (i : ℕ) (e : Extent) → extent_at es i ≡ Some e → e.incarnation ≤ n
  pub rise : (i j : ℕ) (e f : Extent) → extent_at es i ≡ Some e → extent_at es j ≡ Some f → i < j → e.incarnation < f.incarnation

rising_still : (es : List Extent) (n : ℕ) → Rising es n → Rising es (suc n)
rising_still es n h = record { most = λ i e a. (let l = h.most i e a in omega (arith, l)); rise = h.rise }

rising_added : (es : List Extent) (n x : ℕ) → Rising es n → Rising (es ++ record { number = x; incarnation = suc n } ∷ []) (suc n)
rising_added es n x h = record {
  most = λ i e a. elim (at_added es new i e a) [ inl y ↦ (let l = h.most i e y in omega (arith, l)) | inr z ↦ last e z.1 ];
  rise = λ i j e f a b l. elim (at_added es new i e a) [
    | inl y ↦ elim (at_added es new j f b) [ inl z ↦ h.rise i j e f y z l | inr z ↦ (let k = h.most i e y in let q = from f z.1 in omega (arith, k, q)) ]
    | inr y ↦ elim (at_added es new j f b) [
      | inl z ↦ (let k = at_below es j f z in let q = y.0 in absurd (omega (arith, k, q, l)))
      | inr z ↦ (let k = z.0 in let q = y.0 in absurd (omega (arith, k, q, l)))
    ]
  ];
}
  where
    new : Extent
    new = record { number = x; incarnation = suc n }

    from : (e : Extent) → new ≡ e → e.incarnation ≡ suc n
    from e q = sym (ap (λ (y : Extent). y.incarnation) q)

    last : (e : Extent) → new ≡ e → e.incarnation ≤ suc n
    last e q = let k = from e q in omega (arith, k)

rising_taken : (es : List Extent) (n k : ℕ) → Rising es n → Rising (take k es) (suc n)
rising_taken es n k h = record {
  most = λ i e a. (let l = h.most i e (at_in_taken k es i e a).0 in omega (arith, l));
  rise = λ i j e f a b l. h.rise i j e f (at_in_taken k es i e a).0 (at_in_taken k es j f b).0 l;
}

rising_step : (R : List Record) (r : Record) (o : ℕ) → Rising (extents_of R o) (length R) → Rising (extents_of (r ∷ R) o) (suc (length R))
rising_step R (Extend x) o h =
    elim (eqb x.obj o) as (λ v. Rising (cond v (extents_of R o ++ record { number = x.extent; incarnation = suc (length R) } ∷ []) (extents_of R o)) (suc (length R))) [
      | true ↦ rising_added (extents_of R o) (length R) x.extent h
      | false ↦ rising_still (extents_of R o) (length R) h
    ]
rising_step R (Lower l) o h =
    elim (eqb l.obj o) as (λ v. Rising (cond v (take l.kept (extents_of R o)) (extents_of R o)) (suc (length R))) [
      | true ↦ rising_taken (extents_of R o) (length R) l.kept h
      | false ↦ rising_still (extents_of R o) (length R) h
    ]
rising_step R _ o h = rising_still (extents_of R o) (length R) h

pub rising : (R : List Record) (o : ℕ) → Rising (extents_of R o) (length R)
rising [] o = record { most = λ i e a. none_at _ e a; rise = λ i j e f a b l. none_at _ e a }
rising (r ∷ R) o = rising_step R r o (rising R o)

-- an extent that isn't new was there before
pub before_step : (R : List Record) (r : Record) (o i : ℕ) (e : Extent) → extent_at (extents_of (r ∷ R) o) i ≡ Some e → e.incarnation ≤ length R → extent_at (extents_of R o) i ≡ Some e
before_step R (Extend x) o i e h l =
    (elim (eqb x.obj o) as (λ v. extent_at (cond v (extents_of R o ++ new ∷ []) (extents_of R o)) i ≡ Some e → extent_at (extents_of R o) i ≡ Some e) [
      | true ↦ λ k. elim (at_added (extents_of R o) new i e k) [ inl y ↦ y | inr z ↦ absurd (late e z.1 l) ]
      | false ↦ λ k. k
    ]) h
  where
    new : Extent
    new = record { number = x.extent; incarnation = suc (length R) }

    late : (e : Extent) → new ≡ e → e.incarnation ≤ length R → ⊥
    late e q k = let same : suc (length R) ≡ e.incarnation = ap (λ (y : Extent). y.incarnation) q in omega (arith, same, k)
before_step R (Lower w) o i e h l =
    (elim (eqb w.obj o) as (λ v. extent_at (cond v (take w.kept (extents_of R o)) (extents_of R o)) i ≡ Some e → extent_at (extents_of R o) i ≡ Some e) [
      | true ↦ λ k. (at_in_taken w.kept (extents_of R o) i e k).0
      | false ↦ λ k. k
    ]) h
before_step R _ o i e h l = h

pub before : (Q R : List Record) (o i : ℕ) (e : Extent) → Extends Q R → extent_at (extents_of R o) i ≡ Some e → e.incarnation ≤ length Q → extent_at (extents_of Q o) i ≡ Some e
before Q _ o i e same h l = h
before Q (r ∷ R) o i e (more _ x) h l = before Q R o i e x (before_step R r o i e h (le_trans l (extends_length Q R x))) l

pub incarnations_tell : IncarnationsTell
incarnations_tell Q R o x = let r = rising R o in record { most = r.most; rise = r.rise; old = λ i e h l. before Q R o i e x h l }
