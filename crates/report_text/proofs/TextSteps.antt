-- One turn and the end of each loop that writes text.
use Rattle.std.proofs.Common.{◌≡◌, ℕ, ◌+◌, ◌<◌, ◌≤◌, List, [], ◌∷◌, ◌++◌, length, get_or, drop, sym, ap, ◌∙◌, append_assoc}
use Rattle.std.specs.Prelude.{Option}
use Rattle.std.proofs.lemmas.List.{at_drop_more, at_drop_all, append-nil}
use Rattle.report_text.specs.Text.{word_text, words_text, hex_text}
use Rattle.report_text.specs.Fields.{numbers_text}
use Rattle.report_text.specs.Rules.{hook_text, hooks_text}

pub words_go : (ws : List ℕ) (i d : ℕ) (out spaced after all : List ℕ) → i < length ws → spaced ≡ out ++ 32 ∷ [] → after ≡ spaced ++ word_text (get_or ws i d)
    → out ++ words_text (drop i ws) ≡ all → after ++ words_text (drop (i + 1) ws) ≡ all
unfolding words_text
words_go ws i d out spaced after all h e f so_far =
    let turn : words_text (drop i ws) ≡ 32 ∷ (word_text (get_or ws i d) ++ words_text (drop (i + 1) ws)) = at_drop_more words_text ws i d h in
    rw (f, e) (append_assoc (out ++ 32 ∷ []) (word_text (get_or ws i d)) (words_text (drop (i + 1) ws)) ∙ append_assoc out (32 ∷ []) (word_text (get_or ws i d) ++ words_text (drop (i + 1) ws)) ∙ ap (λ (xs : List ℕ). out ++ xs) (sym turn) ∙ so_far)

pub words_end : (ws : List ℕ) (i : ℕ) (out all : List ℕ) → length ws ≤ i → out ++ words_text (drop i ws) ≡ all → out ≡ all
unfolding words_text
words_end ws i out all h so_far = sym (append-nil out) ∙ ap (λ (xs : List ℕ). out ++ xs) (sym (at_drop_all words_text ws i h)) ∙ so_far

pub numbers_go : (ns : List ℕ) (i d : ℕ) (out spaced after all : List ℕ) → i < length ns → spaced ≡ out ++ 32 ∷ [] → after ≡ spaced ++ hex_text (get_or ns i d)
    → out ++ numbers_text (drop i ns) ≡ all → after ++ numbers_text (drop (i + 1) ns) ≡ all
unfolding numbers_text
numbers_go ns i d out spaced after all h e f so_far =
    let turn : numbers_text (drop i ns) ≡ 32 ∷ (hex_text (get_or ns i d) ++ numbers_text (drop (i + 1) ns)) = at_drop_more numbers_text ns i d h in
    rw (f, e) (append_assoc (out ++ 32 ∷ []) (hex_text (get_or ns i d)) (numbers_text (drop (i + 1) ns)) ∙ append_assoc out (32 ∷ []) (hex_text (get_or ns i d) ++ numbers_text (drop (i + 1) ns)) ∙ ap (λ (xs : List ℕ). out ++ xs) (sym turn) ∙ so_far)

pub numbers_end : (ns : List ℕ) (i : ℕ) (out all : List ℕ) → length ns ≤ i → out ++ numbers_text (drop i ns) ≡ all → out ≡ all
unfolding numbers_text
numbers_end ns i out all h so_far = sym (append-nil out) ∙ ap (λ (xs : List ℕ). out ++ xs) (sym (at_drop_all numbers_text ns i h)) ∙ so_far

pub hooks_go : (hs : List (Option ℕ)) (i : ℕ) (d : Option ℕ) (out after all : List ℕ) → i < length hs → after ≡ out ++ hook_text (get_or hs i d)
    → out ++ hooks_text (drop i hs) ≡ all → after ++ hooks_text (drop (i + 1) hs) ≡ all
unfolding hooks_text
hooks_go hs i d out after all h f so_far =
    let turn : hooks_text (drop i hs) ≡ hook_text (get_or hs i d) ++ hooks_text (drop (i + 1) hs) = at_drop_more hooks_text hs i d h in
    rw f (append_assoc out (hook_text (get_or hs i d)) (hooks_text (drop (i + 1) hs)) ∙ ap (λ (xs : List ℕ). out ++ xs) (sym turn) ∙ so_far)

pub hooks_end : (hs : List (Option ℕ)) (i : ℕ) (out all : List ℕ) → length hs ≤ i → out ++ hooks_text (drop i hs) ≡ all → out ≡ all
unfolding hooks_text
hooks_end hs i out all h so_far = sym (append-nil out) ∙ ap (λ (xs : List ℕ). out ++ xs) (sym (at_drop_all hooks_text hs i h)) ∙ so_far
