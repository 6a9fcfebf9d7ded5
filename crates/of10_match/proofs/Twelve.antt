-- Twelve tests at once.
use Rattle.std.proofs.Common.{◌≡◌, Bool, true, false, ◌&&◌, refl, ap, ◌∙◌, sym}
use Rattle.of10_match.specs.Matching.{each}

pub and-false : (a : Bool) → (a && false) ≡ false
and-false true = refl
and-false false = refl

pub and_cross : (a b c d : Bool) → ((a && b) && (c && d)) ≡ ((a && c) && (b && d))
and_cross true true c d = refl
and_cross true false c d = sym (and-false c)
and_cross false b c d = refl

-- two tests that agree where a first one passes
pub and_under : (b x y : Bool) → (b ≡ true → x ≡ y) → (b && x) ≡ (b && y)
and_under true x y e = e refl
and_under false x y e = refl

pub and-comm : (a b : Bool) → (a && b) ≡ (b && a)
and-comm true true = refl
and-comm true false = refl
and-comm false true = refl
and-comm false false = refl

-- twelve tests and twelve more are twelve pairs of tests
pub each-and : (a b c d e f g h i j k l a' b' c' d' e' f' g' h' i' j' k' l' : Bool) →
    (each a b c d e f g h i j k l && each a' b' c' d' e' f' g' h' i' j' k' l')
    ≡ each (a && a') (b && b') (c && c') (d && d') (e && e') (f && f') (g && g') (h && h') (i && i') (j && j')
    (k && k') (l && l')
each-and a b c d e f g h i j k l a' b' c' d' e' f' g' h' i' j' k' l' =
    and_cross a (b && (c && (d && (e && (f && (g && (h && (i && (j && (k && (l))))))))))) a'
    (b' && (c' && (d' && (e' && (f' && (g' && (h' && (i' && (j' && (k' && (l')))))))))))
    ∙ ap (λ z. (a && a') && z)
    (and_cross b (c && (d && (e && (f && (g && (h && (i && (j && (k && (l)))))))))) b'
    (c' && (d' && (e' && (f' && (g' && (h' && (i' && (j' && (k' && (l'))))))))))
    ∙ ap (λ z. (b && b') && z)
    (and_cross c (d && (e && (f && (g && (h && (i && (j && (k && (l))))))))) c'
    (d' && (e' && (f' && (g' && (h' && (i' && (j' && (k' && (l')))))))))
    ∙ ap (λ z. (c && c') && z)
    (and_cross d (e && (f && (g && (h && (i && (j && (k && (l)))))))) d'
    (e' && (f' && (g' && (h' && (i' && (j' && (k' && (l'))))))))
    ∙ ap (λ z. (d && d') && z)
    (and_cross e (f && (g && (h && (i && (j && (k && (l))))))) e'
    (f' && (g' && (h' && (i' && (j' && (k' && (l')))))))
    ∙ ap (λ z. (e && e') && z)
    (and_cross f (g && (h && (i && (j && (k && (l)))))) f' (g' && (h' && (i' && (j' && (k' && (l'))))))
    ∙ ap (λ z. (f && f') && z) (and_cross g (h && (i && (j && (k && (l))))) g' (h' && (i' && (j' && (k' && (l')))))
    ∙ ap (λ z. (g && g') && z) (and_cross h (i && (j && (k && (l)))) h' (i' && (j' && (k' && (l'))))
    ∙ ap (λ z. (h && h') && z) (and_cross i (j && (k && (l))) i' (j' && (k' && (l')))
    ∙ ap (λ z. (i && i') && z) (and_cross j (k && (l)) j' (k' && (l'))
    ∙ ap (λ z. (j && j') && z) (and_cross k (l) k' (l') ∙ ap (λ z. (k && k') && z) (refl)))))))))))

-- tests that agree place by place
pub each-same : {a b c d e f g h i j k l a' b' c' d' e' f' g' h' i' j' k' l' : Bool} → a ≡ a' → b ≡ b' → c ≡ c' → d ≡ d'
    → e ≡ e' → f ≡ f' → g ≡ g' → h ≡ h' → i ≡ i' → j ≡ j' → k ≡ k' → l ≡ l'
    → each a b c d e f g h i j k l ≡ each a' b' c' d' e' f' g' h' i' j' k' l'
each-same ea eb ec ed ee ef eg eh ei ej ek el = cc

-- each of the twelve tests passes
pub record AllTrue (a b c d e f g h i j k l : Bool) : Type 0 where
  pub at_a : a ≡ true
  pub at_b : b ≡ true
  pub at_c : c ≡ true
  pub at_d : d ≡ true
  pub at_e : e ≡ true
  pub at_f : f ≡ true
  pub at_g : g ≡ true
  pub at_h : h ≡ true
  pub at_i : i ≡ true
  pub at_j : j ≡ true
  pub at_k : k ≡ true
  pub at_l : l ≡ true

-- the first and the second of two tests that both pass
pub and-first : (a b : Bool) → (a && b) ≡ true → a ≡ true
and-first true b e = refl
and-first false b e = e

pub and-second : (a b : Bool) → (a && b) ≡ true → b ≡ true
and-second true b e = e
and-second false b e = cc

pub and-intro : (a b : Bool) → a ≡ true → b ≡ true → (a && b) ≡ true
and-intro a b p q = rw (p, q) refl

-- where all twelve pass together, each passes
pub each-fields : (a b c d e f g h i j k l : Bool) → each a b c d e f g h i j k l ≡ true
    → AllTrue a b c d e f g h i j k l
each-fields a b c d e f g h i j k l e0 =
    let e1 = and-second a (b && (c && (d && (e && (f && (g && (h && (i && (j && (k && (l))))))))))) e0 in
    let e2 = and-second b (c && (d && (e && (f && (g && (h && (i && (j && (k && (l)))))))))) e1 in
    let e3 = and-second c (d && (e && (f && (g && (h && (i && (j && (k && (l))))))))) e2 in
    let e4 = and-second d (e && (f && (g && (h && (i && (j && (k && (l)))))))) e3 in
    let e5 = and-second e (f && (g && (h && (i && (j && (k && (l))))))) e4 in
    let e6 = and-second f (g && (h && (i && (j && (k && (l)))))) e5 in
    let e7 = and-second g (h && (i && (j && (k && (l))))) e6 in
    let e8 = and-second h (i && (j && (k && (l)))) e7 in
    let e9 = and-second i (j && (k && (l))) e8 in
    let e10 = and-second j (k && (l)) e9 in
    let e11 = and-second k l e10 in
    record {
      at_a = and-first a (b && (c && (d && (e && (f && (g && (h && (i && (j && (k && (l))))))))))) e0;
      at_b = and-first b (c && (d && (e && (f && (g && (h && (i && (j && (k && (l)))))))))) e1;
      at_c = and-first c (d && (e && (f && (g && (h && (i && (j && (k && (l))))))))) e2;
      at_d = and-first d (e && (f && (g && (h && (i && (j && (k && (l)))))))) e3;
      at_e = and-first e (f && (g && (h && (i && (j && (k && (l))))))) e4;
      at_f = and-first f (g && (h && (i && (j && (k && (l)))))) e5;
      at_g = and-first g (h && (i && (j && (k && (l))))) e6;
      at_h = and-first h (i && (j && (k && (l)))) e7;
      at_i = and-first i (j && (k && (l))) e8;
      at_j = and-first j (k && (l)) e9;
      at_k = and-first k (l) e10;
      at_l = e11;
    }

-- and together where each does
pub each-intro : (a b c d e f g h i j k l : Bool) → AllTrue a b c d e f g h i j k l
    → each a b c d e f g h i j k l ≡ true
each-intro a b c d e f g h i j k l t =
    and-intro a (b && (c && (d && (e && (f && (g && (h && (i && (j && (k && (l))))))))))) t.at_a
    (and-intro b (c && (d && (e && (f && (g && (h && (i && (j && (k && (l)))))))))) t.at_b
    (and-intro c (d && (e && (f && (g && (h && (i && (j && (k && (l))))))))) t.at_c
    (and-intro d (e && (f && (g && (h && (i && (j && (k && (l)))))))) t.at_d
    (and-intro e (f && (g && (h && (i && (j && (k && (l))))))) t.at_e
    (and-intro f (g && (h && (i && (j && (k && (l)))))) t.at_f
    (and-intro g (h && (i && (j && (k && (l))))) t.at_g
    (and-intro h (i && (j && (k && (l)))) t.at_h
    (and-intro i (j && (k && (l))) t.at_i (and-intro j (k && (l)) t.at_j (and-intro k (l) t.at_k (t.at_l)))))))))))
