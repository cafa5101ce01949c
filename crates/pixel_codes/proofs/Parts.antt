-- Sub-blocks: what their type bytes say, and that bytes begin with one sub-block at most.
use Rattle.std.proofs.Common.{◌≡◌, ℕ, suc, ◌+◌, ◌≤◌, Bool, true, false, eqb, List, [], ◌∷◌, ◌++◌, length, take, Option, Some, None, refl, sym, ap, subst, ◌∙◌, append_assoc, arith}
use Rattle.std.proofs.lemmas.Bool.{eqb-true}
use Rattle.std.specs.Prelude.{IfSome}
use Rattle.std.proofs.lemmas.List.{length-append, append_cancel_left, append-nil, length-take-le}
use Rattle.sub_base.specs.declared.depth.Depth.{Depth}
use Rattle.sub_base.specs.declared.depth.Depth.TheVariants.{Two, Four, Eight}
use Rattle.stream_syntax.specs.PixelCodes.{Code, IsString}
use Rattle.stream_syntax.specs.PixelBlocks.{Part, string, table, line_end, string_type, table_type, line_end_type, table_size, entries_of, IsNoDeeper, IsPart, AreParts, IsRefused, IsBlockFault}
use Rattle.stream_syntax.specs.declared.map_table.MapTable.{MapTable}
use Rattle.stream_syntax.specs.declared.map_table.MapTable.TheVariants.{TwoToFour, TwoToEight, FourToEight}
use Rattle.stream_syntax.specs.declared.code_fault.CodeFault.{CodeFault}
use Rattle.stream_syntax.specs.declared.code_fault.CodeKind.{CodeKind}
use Rattle.stream_syntax.specs.declared.code_fault.CodeKind.TheVariants.{UnknownType, TooDeep, CutString, CutTable}
use Rattle.pixel_codes.specs.declared.part.Head.{Head}
use Rattle.pixel_codes.specs.declared.part.Head.TheVariants.{PixelString, Table, LineEnd}
use Rattle.pixel_codes.specs.Heads.{head_of}
use Rattle.code_strings.proofs.Strings.{same_string}

-- ---- type bytes

pub head_of-string : (depth : Depth) → head_of (string_type depth) ≡ Some (PixelString depth)
head_of-string Two = refl
head_of-string Four = refl
head_of-string Eight = refl

pub head_of-table : (kind : MapTable) → head_of (table_type kind) ≡ Some (Table kind)
head_of-table TwoToFour = refl
head_of-table TwoToEight = refl
head_of-table FourToEight = refl

-- what a type byte is
abbrev pub Begins : ℕ → Option Head → Type 0
Begins first None = ((depth : Depth) → first ≡ string_type depth → ⊥)
    × ((kind : MapTable) → first ≡ table_type kind → ⊥) × (first ≡ line_end_type → ⊥)
Begins first (Some (PixelString depth)) = first ≡ string_type depth
Begins first (Some (Table kind)) = first ≡ table_type kind
Begins first (Some LineEnd) = first ≡ line_end_type

none_of : (first : ℕ) → head_of first ≡ None → Begins first None
none_of first e = (
  λ depth f. let g = sym e ∙ ap head_of f ∙ head_of-string depth in absurd cc,
  λ kind f. let g = sym e
      ∙ ap head_of f ∙ head_of-table kind in absurd cc,
  λ f. let g : None ≡ Some LineEnd = sym e
      ∙ ap head_of f in absurd cc,
)

cases_test : {R : Type 0} (a b : ℕ) → (eqb a b ≡ true → a ≡ b → R) → (eqb a b ≡ false → R) → R
cases_test {R} a b same other = by (eqb a b) refl
  where
    by : (t : Bool) → eqb a b ≡ t → R
    by true e = same e (eqb-true a b e)
    by false e = other e

pub begins : (first : ℕ) → Begins first (head_of first)
begins first =
    cases_test first 0x10 (λ e f. rw e f) λ t1.
    cases_test first 0x11 (λ e f. rw (t1, e) f) λ t2.
    cases_test first 0x12 (λ e f. rw (t1, t2, e) f) λ t3.
    cases_test first 0x20 (λ e f. rw (t1, t2, t3, e) f) λ t4.
    cases_test first 0x21 (λ e f. rw (t1, t2, t3, t4, e) f) λ t5.
    cases_test first 0x22 (λ e f. rw (t1, t2, t3, t4, t5, e) f) λ t6.
    cases_test first 0xF0 (λ e f. rw (t1, t2, t3, t4, t5, t6, e) f) λ t7.
    let none : head_of first ≡ None = rw (t1, t2, t3, t4, t5, t6, t7) refl in
    subst (Begins first) (sym none) (none_of first none)

-- ---- one sub-block at most begins bytes

pub same_depth : (a b : Depth) → string_type a ≡ string_type b → a ≡ b
same_depth a b e = let f = sym (head_of-string a) ∙ ap head_of e ∙ head_of-string b in cc

same_table : (a b : MapTable) → table_type a ≡ table_type b → a ≡ b
same_table a b e = let f = sym (head_of-table a) ∙ ap head_of e ∙ head_of-table b in cc

no_table : (a : Depth) (b : MapTable) → string_type a ≡ table_type b → ⊥
no_table a b e = let f = sym (head_of-string a) ∙ ap head_of e ∙ head_of-table b in cc

string_no_end : (a : Depth) → string_type a ≡ line_end_type → ⊥
string_no_end a e = let f : Some (PixelString a) ≡ Some LineEnd = sym (head_of-string a) ∙ ap head_of e in cc

table_no_end : (a : MapTable) → table_type a ≡ line_end_type → ⊥
table_no_end a e = let f : Some (Table a) ≡ Some LineEnd = sym (head_of-table a) ∙ ap head_of e in cc

abbrev head_or : List ℕ → ℕ
head_or [] = 0
head_or (x ∷ xs) = x

abbrev tail_or : List ℕ → List ℕ
tail_or [] = []
tail_or (x ∷ xs) = xs

-- two lists that begin alike: their first elements and the rest
firsts : (a b r s front back body other : List ℕ) (x y : ℕ) → front ++ r ≡ back ++ s
    → front ≡ x ∷ body → back ≡ y ∷ other → (x ≡ y) × (body ++ r ≡ other ++ s)
firsts a b r s front back body other x y e f g =
    let h : (x ∷ body) ++ r ≡ (y ∷ other) ++ s =
    ap (λ (t : List ℕ). t ++ r) (sym f) ∙ e ∙ ap (λ (t : List ℕ). t ++ s) g in
    (ap head_or h, ap tail_or h)

-- lists that are the same and begin with lists of one length
same_front : (a b r s : List ℕ) → length a ≡ length b → a ++ r ≡ b ++ s → a ≡ b
same_front [] [] r s l e = refl
same_front [] (y ∷ b) r s l e = absurd (omega arith)
same_front (x ∷ a) [] r s l e = absurd (omega arith)
same_front (x ∷ a) (y ∷ b) r s l e =
    let f : x ≡ y = ap head_or e in let g : a ≡ b = same_front a b r s (omega arith) (ap tail_or e) in cc

pub same_part : (region : Depth) (p q : Part) (a b r s : List ℕ) → IsPart region p a → IsPart region q b
    → a ++ r ≡ b ++ s → a ≡ b
same_part region (string depth codes) (string other others) a b r s h k e =
    let f = firsts a b r s a b h.1 k.1 _ _ e h.2 k.2 in
    let d : depth ≡ other = same_depth depth other f.0 in
    let k' : IsString depth others k.1 = subst (λ (x : Depth). IsString x others k.1) (sym d) k.3 in
    let body : h.1 ≡ k.1 = same_string depth codes others h.1 k.1 r s h.3 k' f.1 in
    h.2 ∙ ap (λ (x : ℕ). x ∷ h.1) f.0 ∙ ap (λ (t : List ℕ). string_type other ∷ t) body ∙ sym k.2
same_part region (string depth codes) (table kind entries) a b r s h k e =
    absurd (no_table depth kind (firsts a b r s a b h.1 k.0 _ _ e h.2 k.1).0)
same_part region (string depth codes) line_end a b r s h k e =
    absurd (string_no_end depth (firsts a b r s a b h.1 [] _ _ e h.2 k).0)
same_part region (table kind entries) (string depth codes) a b r s h k e =
    absurd (no_table depth kind (sym (firsts a b r s a b h.0 k.1 _ _ e h.1 k.2).0))
same_part region (table kind entries) (table other others) a b r s h k e =
    let f = firsts a b r s a b h.0 k.0 _ _ e h.1 k.1 in
    let d : kind ≡ other = same_table kind other f.0 in
    let l : length h.0 ≡ length k.0 = h.2 ∙ ap table_size d ∙ sym k.2 in
    let body : h.0 ≡ k.0 = same_front h.0 k.0 r s l f.1 in
    h.1 ∙ ap (λ (x : ℕ). x ∷ h.0) f.0 ∙ ap (λ (t : List ℕ). table_type other ∷ t) body ∙ sym k.1
same_part region (table kind entries) line_end a b r s h k e =
    absurd (table_no_end kind (firsts a b r s a b h.0 [] _ _ e h.1 k).0)
same_part region line_end (string depth codes) a b r s h k e =
    absurd (string_no_end depth (sym (firsts a b r s a b [] k.1 _ _ e h k.2).0))
same_part region line_end (table kind entries) a b r s h k e =
    absurd (table_no_end kind (sym (firsts a b r s a b [] k.0 _ _ e h k.1).0))
same_part region line_end line_end a b r s h k e = h ∙ sym k

-- what a sub-block begins is not refused
refused_string : (region depth : Depth) (codes : List Code) (kind : CodeKind) (body rest : List ℕ)
    → IsNoDeeper depth region → IsString depth codes body
    → IsRefused region kind (string_type depth ∷ (body ++ rest)) → ⊥
refused_string region depth codes UnknownType body rest n s h = h.0 depth refl
refused_string region depth codes TooDeep body rest n s h =
    h.2 (subst (λ (d : Depth). IsNoDeeper d region) (same_depth depth h.0 h.1) n)
refused_string region depth codes CutString body rest n s h =
    h.3 codes body rest refl (subst (λ (d : Depth). IsString d codes body) (same_depth depth h.0 h.1) s)
refused_string region depth codes CutTable body rest n s h = no_table depth h.0 h.1

refused_table : (region : Depth) (table_kind : MapTable) (kind : CodeKind) (body rest : List ℕ)
    → length body ≡ table_size table_kind → IsRefused region kind (table_type table_kind ∷ (body ++ rest))
    → ⊥
refused_table region table_kind UnknownType body rest l h = h.1 table_kind refl
refused_table region table_kind TooDeep body rest l h = no_table h.0 table_kind (sym h.1)
refused_table region table_kind CutString body rest l h = no_table h.0 table_kind (sym h.1)
refused_table region table_kind CutTable body rest l h =
    let e : table_size table_kind ≡ table_size h.0 = ap table_size (same_table table_kind h.0 h.1) in
    omega (arith, h.2, length-append body rest)

refused_end : (region : Depth) (kind : CodeKind) (rest : List ℕ)
    → IsRefused region kind (line_end_type ∷ rest) → ⊥
refused_end region UnknownType rest h = h.2 refl
refused_end region TooDeep rest h = string_no_end h.0 (sym h.1)
refused_end region CutString rest h = string_no_end h.0 (sym h.1)
refused_end region CutTable rest h = table_no_end h.0 (sym h.1)

pub part_not_refused : (region : Depth) (part : Part) (kind : CodeKind) (front rest : List ℕ)
    → IsPart region part front → IsRefused region kind (front ++ rest) → ⊥
part_not_refused region (string depth codes) kind front rest p h =
    refused_string region depth codes kind p.1 rest p.0 p.3
    (subst (λ (t : List ℕ). IsRefused region kind (t ++ rest)) p.2 h)
part_not_refused region (table table_kind entries) kind front rest p h =
    refused_table region table_kind kind p.0 rest p.2
    (subst (λ (t : List ℕ). IsRefused region kind (t ++ rest)) p.1 h)
part_not_refused region line_end kind front rest p h =
    refused_end region kind rest (subst (λ (t : List ℕ). IsRefused region kind (t ++ rest)) p h)

-- bytes are refused for one reason
one_kind : (region : Depth) (a b : CodeKind) (first : ℕ) (body : List ℕ) → IsRefused region a (first ∷ body)
    → IsRefused region b (first ∷ body) → a ≡ b
one_kind region UnknownType UnknownType first body h k = refl
one_kind region UnknownType TooDeep first body h k = absurd (h.0 k.0 k.1)
one_kind region UnknownType CutString first body h k = absurd (h.0 k.0 k.1)
one_kind region UnknownType CutTable first body h k = absurd (h.1 k.0 k.1)
one_kind region TooDeep UnknownType first body h k = absurd (k.0 h.0 h.1)
one_kind region TooDeep TooDeep first body h k = refl
one_kind region TooDeep CutString first body h k =
    absurd (h.2 (subst (λ (d : Depth). IsNoDeeper d region) (same_depth k.0 h.0 (sym k.1 ∙ h.1)) k.2))
one_kind region TooDeep CutTable first body h k = absurd (no_table h.0 k.0 (sym h.1 ∙ k.1))
one_kind region CutString UnknownType first body h k = absurd (k.0 h.0 h.1)
one_kind region CutString TooDeep first body h k =
    absurd (k.2 (subst (λ (d : Depth). IsNoDeeper d region) (same_depth h.0 k.0 (sym h.1 ∙ k.1)) h.2))
one_kind region CutString CutString first body h k = refl
one_kind region CutString CutTable first body h k = absurd (no_table h.0 k.0 (sym h.1 ∙ k.1))
one_kind region CutTable UnknownType first body h k = absurd (k.1 h.0 h.1)
one_kind region CutTable TooDeep first body h k = absurd (no_table k.0 h.0 (sym k.1 ∙ h.1))
one_kind region CutTable CutString first body h k = absurd (no_table k.0 h.0 (sym k.1 ∙ h.1))
one_kind region CutTable CutTable first body h k = refl

same_kind : (region : Depth) (a b : CodeKind) (bytes other : List ℕ) → bytes ≡ other
    → IsRefused region a bytes → IsRefused region b other → a ≡ b
same_kind region a b [] [] e h k = absurd h
same_kind region a b [] (y ∷ ys) e h k = absurd h
same_kind region a b (x ∷ xs) other e h k = one_kind region a b x xs h (subst (IsRefused region b) (sym e) k)

-- ---- lists of sub-blocks

-- a sub-block has a byte
pub no_part : (region : Depth) (part : Part) (front rest : List ℕ) → IsPart region part front
    → front ++ rest ≡ [] → ⊥
no_part region (string depth codes) front rest p e =
    let f : string_type depth ∷ (p.1 ++ rest) ≡ [] = ap (λ (t : List ℕ). t ++ rest) (sym p.2) ∙ e in cc
no_part region (table kind entries) front rest p e =
    let f : table_type kind ∷ (p.0 ++ rest) ≡ [] = ap (λ (t : List ℕ). t ++ rest) (sym p.1) ∙ e in cc
no_part region line_end front rest p e =
    let f : line_end_type ∷ rest ≡ [] = ap (λ (t : List ℕ). t ++ rest) (sym p) ∙ e in cc

-- a block is not refused anywhere
pub parts_not_refused : (region : Depth) (parts good : List Part) (bytes before after : List ℕ) (kind : CodeKind)
    → AreParts region parts bytes → AreParts region good before → bytes ≡ before ++ after
    → IsRefused region kind after → ⊥
parts_not_refused region [] [] bytes before after kind p g e h =
    let f : after ≡ [] = sym (e ∙ ap (λ (t : List ℕ). t ++ after) g) ∙ p in subst (IsRefused region kind) f h
parts_not_refused region [] (part ∷ good) bytes before after kind p g e h =
    let f : g.0 ++ (g.1 ++ after) ≡ [] =
    sym (append_assoc g.0 g.1 after) ∙ ap (λ (t : List ℕ). t ++ after) (sym g.2) ∙ sym e ∙ p in
    no_part region part g.0 (g.1 ++ after) g.3 f
parts_not_refused region (part ∷ parts) [] bytes before after kind p g e h =
    let f : after ≡ p.0 ++ p.1 = sym (e ∙ ap (λ (t : List ℕ). t ++ after) g) ∙ p.2 in
    part_not_refused region part kind p.0 p.1 p.3 (subst (IsRefused region kind) f h)
parts_not_refused region (part ∷ parts) (other ∷ good) bytes before after kind p g e h =
    let f : p.0 ++ p.1 ≡ g.0 ++ (g.1 ++ after) =
    sym p.2 ∙ e ∙ ap (λ (t : List ℕ). t ++ after) g.2 ∙ append_assoc g.0 g.1 after in
    let s : p.0 ≡ g.0 = same_part region part other p.0 g.0 p.1 (g.1 ++ after) p.3 g.3 f in
    let t : p.1 ≡ g.1 ++ after =
    append_cancel_left g.0 p.1 (g.1 ++ after) (ap (λ (t : List ℕ). t ++ p.1) (sym s) ∙ f) in
    parts_not_refused region parts good p.1 g.1 after kind p.4 g.4 t h

-- the first refusal is one
one_fault : (region : Depth) (good others : List Part) (before after first last : List ℕ) (a b : CodeKind)
    → AreParts region good before → AreParts region others first → before ++ after ≡ first ++ last
    → IsRefused region a after → IsRefused region b last → (length before ≡ length first) × (a ≡ b)
one_fault region [] [] before after first last a b g o e h k =
    let f : after ≡ last = ap (λ (t : List ℕ). t ++ after) (sym g) ∙ e ∙ ap (λ (t : List ℕ). t ++ last) o in
    (ap length (g ∙ sym o), same_kind region a b after last f h k)
one_fault region [] (part ∷ others) before after first last a b g o e h k =
    let f : after ≡ o.0 ++ (o.1 ++ last) =
    ap (λ (t : List ℕ). t ++ after) (sym g) ∙ e ∙ ap (λ (t : List ℕ). t ++ last) o.2
    ∙ append_assoc o.0 o.1 last in
    absurd (part_not_refused region part a o.0 (o.1 ++ last) o.3 (subst (IsRefused region a) f h))
one_fault region (part ∷ good) [] before after first last a b g o e h k =
    let f : last ≡ g.0 ++ (g.1 ++ after) =
    ap (λ (t : List ℕ). t ++ last) (sym o) ∙ sym e ∙ ap (λ (t : List ℕ). t ++ after) g.2
    ∙ append_assoc g.0 g.1 after in
    absurd (part_not_refused region part b g.0 (g.1 ++ after) g.3 (subst (IsRefused region b) f k))
one_fault region (part ∷ good) (other ∷ others) before after first last a b g o e h k =
    let f : g.0 ++ (g.1 ++ after) ≡ o.0 ++ (o.1 ++ last) =
    sym (append_assoc g.0 g.1 after) ∙ ap (λ (t : List ℕ). t ++ after) (sym g.2) ∙ e
    ∙ ap (λ (t : List ℕ). t ++ last) o.2 ∙ append_assoc o.0 o.1 last in
    let s : g.0 ≡ o.0 = same_part region part other g.0 o.0 (g.1 ++ after) (o.1 ++ last) g.3 o.3 f in
    let t : g.1 ++ after ≡ o.1 ++ last =
    append_cancel_left o.0 (g.1 ++ after) (o.1 ++ last) (ap (λ (t : List ℕ). t ++ (g.1 ++ after)) (sym s) ∙ f)
    in
    let r = one_fault region good others g.1 after o.1 last a b g.4 o.4 t h k in
    (omega (arith, ap length g.2, ap length o.2, length-append g.0 g.1, length-append o.0 o.1, ap length s, r.0), r.1)

pub same_fault : (region : Depth) (bytes : List ℕ) (one other : CodeFault) → IsBlockFault region bytes one
    → IsBlockFault region bytes other → one ≡ other
same_fault region bytes one other p q =
    let r =
    one_fault region p.parts q.parts p.before p.after q.before q.after one.kind other.kind p.good q.good
    (sym p.whole ∙ q.whole) p.refused q.refused in
    let place : one.place ≡ other.place = p.place ∙ r.0 ∙ sym q.place in
    λ i. record { place = place i; kind = r.1 i }

-- one more sub-block
pub AreParts-push : (region : Depth) (parts : List Part) (part : Part) (before front : List ℕ)
    → AreParts region parts before → IsPart region part front
    → AreParts region (parts ++ part ∷ []) (before ++ front)
AreParts-push region [] part before front g p =
    (front, [], ap (λ (t : List ℕ). t ++ front) g ∙ sym (append-nil front), p, refl)
AreParts-push region (one ∷ parts) part before front g p = (
  g.0,
  g.1 ++ front,
  ap (λ (t : List ℕ). t ++ front) g.2
      ∙ append_assoc g.0 g.1 front,
  g.3,
  AreParts-push region parts part g.1 front g.4 p,
)

-- ---- the reader's answers

pub is_string : (first : ℕ) (answer : Option Head) (head : Head) (depth : Depth) → answer ≡ head_of first
    → answer ≡ Some head → head ≡ PixelString depth → first ≡ string_type depth
is_string first answer head depth e f g = subst (Begins first) (sym e ∙ f ∙ ap Some g) (begins first)

pub is_table : (first : ℕ) (answer : Option Head) (head : Head) (kind : MapTable) → answer ≡ head_of first
    → answer ≡ Some head → head ≡ Table kind → first ≡ table_type kind
is_table first answer head kind e f g = subst (Begins first) (sym e ∙ f ∙ ap Some g) (begins first)

IfSome_at : {A : Type 0} (o : Option A) (P : A → Type 0) (x : A) → IfSome o P → o ≡ Some x → P x
IfSome_at None P x h e = absurd cc
IfSome_at (Some y) P x h e = let f : y ≡ x = cc in subst P f h

take_first : (size first : ℕ) (body : List ℕ) → take (1 + size) (first ∷ body) ≡ first ∷ take size body
take_first size first body = let e : 1 + size ≡ suc size = omega arith in rw e refl

pub string_part : (region depth : Depth) (first : ℕ) (body : List ℕ) (answer : Option ℕ) (size : ℕ)
    → first ≡ string_type depth → IsNoDeeper depth region →
    IfSome answer (λ n. (n ≤ length body) × (codes : List Code) × IsString depth codes (take n body))
    → answer ≡ Some size → (1 ≤ 1 + size) × (1 + size ≤ length body + 1) × (part : Part)
    × IsPart region part (take (1 + size) (first ∷ body))
string_part region depth first body answer size f n h e =
    let s =
    IfSome_at answer (λ n. (n ≤ length body) × (codes : List Code) × IsString depth codes (take n body)) size h
    e in (
      omega arith,
      omega (arith, s.0),
      string depth
          s.1,
      (n, take size body, take_first size first body ∙ ap (λ (x : ℕ). x ∷ take size body) f, s.2),
    )

pub table_part : (region : Depth) (kind : MapTable) (first : ℕ) (body : List ℕ) (size : ℕ)
    → first ≡ table_type kind → size ≡ table_size kind → size ≤ length body →
    (1 ≤ 1 + size) × (1 + size ≤ length body + 1) × (part : Part)
    × IsPart region part (take (1 + size) (first ∷ body))
table_part region kind first body size f n h = (
  omega arith,
  omega arith,
  table kind
      (entries_of kind (take size body)),
  (
    take size body,
    take_first size first body
        ∙ ap (λ (x : ℕ). x ∷ take size body) f,
    length-take-le size body h ∙ n,
    refl,
  ),
)
