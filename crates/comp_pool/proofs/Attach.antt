use Rattle.std.proofs.Common.{◌≡◌, refl, sym, ℕ, ◌+◌, ◌<◌, ◌≤◌, ◌≢◌, List, [], ◌∷◌, ◌++◌, length, get_or, set, length-append, arith}
use Rattle.std.proofs.lemmas.List.{length-set}
use Rattle.std.proofs.lemmas.List.Sums.{sum_by-set}
use Rattle.comp_pool.specs.Private.Links.{list_at, IsRing, IsLinked, appended}
use Rattle.comp_pool.proofs.Chains.{Puts, Before, kept, put_last, apart, back_is, off_end, Nodes-append}
use Rattle.comp_pool.proofs.Moves.{IsWithout, Puts-set, Before-below, Before-off, at_changed, inside-set}

module _ (count : ℕ) (N P : List ℕ) (lists : List (List ℕ)) (n : ℕ) (w : IsWithout count N P lists n) (b : ℕ)
    (in_lists : b < length lists) where
  abbrev f : ℕ → ℕ
  f = λ i. get_or N i 0

  abbrev g : ℕ → ℕ
  g = λ i. get_or P i 0

  abbrev s : ℕ
  s = count + b

  abbrev xs : List ℕ
  xs = list_at lists b

  abbrev N1 : List ℕ
  N1 = set N (g s) n

  abbrev P1 : List ℕ
  P1 = set P n (g s)

  abbrev N2 : List ℕ
  N2 = set N1 n s

  abbrev P2 : List ℕ
  P2 = set P1 s n

  hs : count ≤ s
  hs = omega arith

  ring : IsRing count N P s xs
  ring = w.rings b in_lists

  before_t : Before (g s) s xs
  before_t = back_is f g s xs s ring.chain

  pub t_below : get_or P (count + b) 0 < length N
  t_below = Before-below (g s) s xs count (length N) ring.nodes (omega (arith, w.ends)) (omega (arith, w.ends)) before_t

  F : Puts f (g s) n (λ i. get_or N1 i 0)
  F = Puts-set N (g s) n t_below

  G : Puts g n (g s) (λ i. get_or P1 i 0)
  G = Puts-set P n (g s) (omega (arith, w.node, w.both, w.ends))

  F' : Puts (λ i. get_or N1 i 0) n s (λ i. get_or N2 i 0)
  F' = Puts-set N1 n s (omega (arith, w.node, w.ends, length-set N (g s) n))

  G' : Puts (λ i. get_or P1 i 0) s n (λ i. get_or P2 i 0)
  G' = Puts-set P1 s n (omega (arith, w.both, w.ends, length-set P n (g s)))

  s_n : s ≢ n
  s_n = λ e. absurd (omega (arith, e, w.node))

  ring_here : IsRing count N2 P2 s (xs ++ n ∷ [])
  ring_here = record {
    chain = put_last f g _ _ _ _ n s xs s F G F' G' (off_end count s xs hs ring.nodes) (w.off b in_lists) s_n s_n
        (apart f g count s xs s ring.nodes hs ring.chain) (off_end count s xs hs ring.nodes) ring.chain;
    nodes = Nodes-append count xs (n ∷ []) ring.nodes (w.node, tt);
  }

  ring_other : (l : ℕ) → l < length lists → l ≢ b → IsRing count N2 P2 (count + l) (list_at lists l)
  ring_other l short ne =
      let other = w.rings l short in
      let apart_ends : s ≢ count + l = λ e. ne (omega (arith, e)) in
      let hl : count ≤ count + l = omega arith in
      let ot =
      Before-off f g count (g s) s (count + l) xs (list_at lists l) ring.nodes other.nodes hs hl apart_ends
      ring.chain other.chain before_t in
      let c_n : count + l ≢ n = λ e. absurd (omega (arith, e, w.node)) in
      let first =
      kept f g _ _ (g s) n (count + l) (list_at lists l) (count + l) F G (ot.1, ot.0) (w.off l short) c_n
      other.chain in
      record {
        chain = kept _ _ _ _ n s (count + l) (list_at lists l) (count + l) F' G' (c_n, w.off l short)
            (off_end count s (list_at lists l) hs other.nodes) (λ e. apart_ends (sym e)) first;
        nodes = other.nodes;
      }

  pub attached : IsLinked count (set (set N (get_or P (count + b) 0) n) n (count + b))
      (set (set P n (get_or P (count + b) 0)) (count + b) n) (appended n b lists)
  attached =
      let same : length (appended n b lists) ≡ length lists = length-set lists b (xs ++ n ∷ []) in
      record {
        few = omega (arith, w.few, length-set N (g s) n, length-set N1 n s);
        ends = omega (arith, w.ends, length-set N (g s) n, length-set N1 n s, same);
        both = omega (arith, w.both, length-set N (g s) n, length-set N1 n s, length-set P n (g s), length-set P1 s n);
        inside = λ k short. omega (
          arith,
          length-set N (g s) n,
          length-set N1 n s,
          inside-set N1 (length N) n s (length-set N (g s) n) (omega (arith, w.ends, in_lists))
              (inside-set N (length N) (g s) n refl (omega (arith, w.ends, w.node)) w.inside) k short,
        );
        rings =
            λ l short. at_changed lists b l (xs ++ n ∷ []) in_lists (λ k zs. IsRing count N2 P2 (count + k) zs)
            ring_here
            (ring_other l (omega (arith, same, short)));
        whole =
            omega (arith, w.whole, sum_by-set length lists b (xs ++ n ∷ []) [] in_lists, length-append xs (n ∷ []));
      }
