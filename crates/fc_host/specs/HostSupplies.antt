-- A file of a host as bytes that are given in order: what becomes of the host meanwhile.
use Rattle.std.specs.Prelude.{◌≡◌, ◌≤◌, ◌<◌, ◌⊎◌, ℕ, ◌+◌, ◌-◌, ◌^◌, Bool, true, false, All, List, [], ◌∷◌, ◌++◌, length, Option, Some, None, option_map}
use Rattle.std.proofs.Common.{inl, inr, refl, sym, ap, subst, ◌∙◌, append_assoc, arith}
use Rattle.std.specs.Option.{ForSome}
use Rattle.std.proofs.lemmas.List.{append-nil, length-append, drop_all}
use Rattle.std.proofs.lemmas.List.Elements.{All-append, All-cons, All-nil}
use Rattle.std.proofs.lemmas.List.Concat.{flat_map-append}
use Rattle.fc_device.specs.Faults.{Rose}
use Rattle.fc_host.specs.Answers.{joined, taken_from}
use Rattle.fc_host.specs.Asked.{Asked}
use Rattle.fc_host.specs.Files.{Files, bytes_of}
use Rattle.fc_host.specs.Looks.{IsLook, LooksAt, Takes}
use Rattle.fc_host.specs.Supplies.{IsGivenOf}
use Rattle.fc_host.specs.declared.host.Host.{Ghosts as Hosts}
use Rattle.fc_host.specs.declared.asks.HostCall.TheVariants as calls

-- A host from which no more is taken has failed for good.
abbrev pub faults_of : Bool → ℕ → ℕ
faults_of true faults = 2 ^ 64 - 1
faults_of false faults = faults

-- ---- what becomes of it

-- the host, the bytes that were given, and whether the host has failed
pub record Giving (H : Type 0) : Type 0 where
  pub host : H
  pub given : List ℕ
  pub failed : Bool

-- The host was only asked for this file, which has so many bytes. Unless it failed, just those were taken that were given, each once and
-- in order; once it has failed, no more are given.
pub record Goes {H : Type 0} (h : Hosts H) (name : List ℕ) (total : ℕ) (a b : Giving H) : Type 0 where
  pub files : h.files b.host ≡ h.files a.host
  pub later : h.faults a.host ≤ h.faults b.host
  pub looks : LooksAt name (h.asked a.host) (h.asked b.host)
  pub fails : b.failed ≡ true → (a.failed ≡ true) ⊎ (Rose (h.faults a.host) (h.faults b.host) × (length b.given < total))
  pub stays : a.failed ≡ true → (b.failed ≡ true) × (b.given ≡ a.given)
  pub takes : b.failed ≡ false → (a.failed ≡ false) × ((bytes : List ℕ) × (b.given ≡ a.given ++ bytes) × Takes name (length a.given) bytes (h.asked a.host) (h.asked b.host))

-- ---- laws

pub faults_fit : (failed : Bool) (n : ℕ) → n < 2 ^ 64 → faults_of failed n < 2 ^ 64
faults_fit true n few = omega arith
faults_fit false n few = few

-- the bytes of a file, if the files are told
pub known_of : (o : Option Files) (given : List ℕ) (total : ℕ) (name : List ℕ) → ForSome o (λ files. IsGivenOf given total (bytes_of files name))
    → ForSome (option_map (λ files. bytes_of files name) o) (IsGivenOf given total)
known_of None given total name told bytes is = absurd (cc)
known_of (Some files) given total name told bytes is = subst (IsGivenOf given total) (same (bytes_of files name) bytes is) (told files refl)
  where
    same : (x y : List ℕ) → Some x ≡ Some y → x ≡ y
    same x y e = cc e

taken_append : (name : List ℕ) (at : ℕ) (ps qs : List (List ℕ)) → taken_from name at (ps ++ qs) ≡ taken_from name at ps ++ taken_from name (at + length (joined ps)) qs
taken_append name at [] qs = ap (λ (n : ℕ). taken_from name n qs) (let e : at ≡ at + 0 = omega arith in e)
taken_append name at (p ∷ ps) qs =
    let long : at + length p + length (joined ps) ≡ at + length (p ++ joined ps) = omega (arith, length-append p (joined ps)) in
    ap (λ (l : List Asked). (name, calls.Take at, p) ∷ l)
    (taken_append name (at + length p) ps qs ∙ ap (λ (n : ℕ). taken_from name (at + length p) ps ++ taken_from name n qs) long)

pub looks_on : (name : List ℕ) (a b c : List Asked) → LooksAt name a b → LooksAt name b c → LooksAt name a c
looks_on name a b c one two =
    (one.0 ++ two.0, two.1 ∙ ap (λ (l : List Asked). l ++ two.0) one.1 ∙ append_assoc a one.0 two.0, All-append (IsLook name) one.0 two.0 one.2 two.2)

pub takes_on : (name : List ℕ) (at mid : ℕ) (xs ys : List ℕ) (a b c : List Asked) → mid ≡ at + length xs → Takes name at xs a b → Takes name mid ys b c → Takes name at (xs ++ ys) a c
takes_on name at mid xs ys a b c is one two =
    let here : taken_from name mid two.0 ≡ taken_from name (at + length (joined one.0)) two.0 =
    ap (λ (n : ℕ). taken_from name n two.0) (is ∙ ap (λ (l : List ℕ). at + length l) (sym one.2)) in (
      one.0 ++ two.0,
      two.1 ∙ ap (λ (l : List Asked). l ++ taken_from name mid two.0) one.1 ∙ append_assoc a (taken_from name at one.0) (taken_from name mid two.0)
          ∙ ap (λ (l : List Asked). a ++ (taken_from name at one.0 ++ l)) here ∙ ap (λ (l : List Asked). a ++ l) (sym (taken_append name at one.0 two.0)),
      flat_map-append (λ (p : List ℕ). p) one.0 two.0 ∙ ap (λ (l : List ℕ). l ++ joined two.0) one.2 ∙ ap (λ (l : List ℕ). xs ++ l) two.2,
    )

pub no_look : (name : List ℕ) (a : List Asked) → LooksAt name a a
no_look name a = ([], sym (append-nil a), λ k d below. absurd (omega (arith, below)))

pub one_look : (name : List ℕ) (a b : List Asked) (call : Asked) → b ≡ a ++ call ∷ [] → IsLook name call → LooksAt name a b
one_look name a b call is look = (call ∷ [], is, All-cons (IsLook name) call [] look (All-nil (IsLook name)))

pub no_taken : (name : List ℕ) (at : ℕ) (a : List Asked) → Takes name at [] a a
no_taken name at a = ([], sym (append-nil a), refl)

pub one_taken : (name : List ℕ) (at : ℕ) (bytes : List ℕ) (a b : List Asked) → b ≡ a ++ (name, calls.Take at, bytes) ∷ [] → Takes name at bytes a b
one_taken name at bytes a b is = (bytes ∷ [], is, append-nil bytes)

module _ {H : Type 0} (h : Hosts H) where
  pub nowhere : (name : List ℕ) (total : ℕ) (a : Giving H) → Goes h name total a a
  nowhere name total a = record {
    files = refl;
    later = omega arith;
    looks = no_look name (h.asked a.host);
    fails = λ is. inl is;
    stays = λ is. (is, refl);
    takes = λ is. (is, ([], sym (append-nil a.given), no_taken name (length a.given) (h.asked a.host)));
  }

  pub on : (name : List ℕ) (total : ℕ) (a b c : Giving H) → Goes h name total a b → Goes h name total b c → Goes h name total a c
  on name total a b c one two = record {
    files = two.files ∙ one.files;
    later = omega (arith, one.later, two.later);
    looks = looks_on name (h.asked a.host) (h.asked b.host) (h.asked c.host) one.looks two.looks;
    fails = λ is. failed (two.fails is);
    stays = λ is. let x = one.stays is in let y = two.stays x.0 in (y.0, y.1 ∙ x.1);
    takes = λ is. taken (two.takes is);
  }
    where
      failed : (b.failed ≡ true) ⊎ (Rose (h.faults b.host) (h.faults c.host) × (length c.given < total))
          → (a.failed ≡ true) ⊎ (Rose (h.faults a.host) (h.faults c.host) × (length c.given < total))
      failed (inl is) = before (one.fails is)
        where
          before : (a.failed ≡ true) ⊎ (Rose (h.faults a.host) (h.faults b.host) × (length b.given < total))
              → (a.failed ≡ true) ⊎ (Rose (h.faults a.host) (h.faults c.host) × (length c.given < total))
          before (inl first) = inl first
          before (inr x) = inr (let rose = x.0 in omega (arith, rose, two.later), subst (λ (l : List ℕ). length l < total) (sym (two.stays is).1) x.1)
      failed (inr x) = inr (let rose = x.0 in omega (arith, rose, one.later), x.1)

      taken : (b.failed ≡ false) × ((bytes : List ℕ) × (c.given ≡ b.given ++ bytes) × Takes name (length b.given) bytes (h.asked b.host) (h.asked c.host))
          → (a.failed ≡ false) × ((bytes : List ℕ) × (c.given ≡ a.given ++ bytes) × Takes name (length a.given) bytes (h.asked a.host) (h.asked c.host))
      taken x =
          let y = one.takes x.0 in
          let long : length b.given ≡ length a.given + length y.1.0 = ap length y.1.1 ∙ length-append a.given y.1.0 in (
            y.0,
            (
              y.1.0 ++ x.1.0,
              x.1.1 ∙ ap (λ (l : List ℕ). l ++ x.1.0) y.1.1 ∙ append_assoc a.given y.1.0 x.1.0,
              takes_on name (length a.given) (length b.given) y.1.0 x.1.0 (h.asked a.host) (h.asked b.host) (h.asked c.host) long y.1.2 x.1.2,
            ),
          )

  -- the same, where name and length are known to be those
  pub onward : (name name' : List ℕ) (total total' : ℕ) (a b c : Giving H) → name' ≡ name → total' ≡ total → Goes h name total a b → Goes h name' total' b c → Goes h name total a c
  onward name name' total total' a b c same long one two =
      on name total a b c one (subst (λ (n : List ℕ). Goes h n total b c) same (subst (λ (t : ℕ). Goes h name' t b c) long two))
