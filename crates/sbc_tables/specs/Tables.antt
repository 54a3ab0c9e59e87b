-- The constant tables of the codec, copied from the Rust, side by side. From document 01, "Need and share" and "Filterbanks".
use Rattle.std.specs.Prelude.{ℕ, List, [], ◌∷◌, eqb, ℤ, pos, neg_ℤ, if◌then◌else◌}

abbrev pub minus : ℕ → ℤ
minus n = neg_ℤ (pos n)

-- ---- the loudness offsets, a row for each rate (16,000, 32,000, 44,100, 48,000), an entry for each subband

unfoldable pub loudness_offsets4 : List (List ℤ)
loudness_offsets4 =
    (minus 1 ∷ pos 0 ∷ pos 0 ∷ pos 0 ∷ []) ∷
    (minus 2 ∷ pos 0 ∷ pos 0 ∷ pos 1 ∷ []) ∷
    (minus 2 ∷ pos 0 ∷ pos 0 ∷ pos 1 ∷ []) ∷
    (minus 2 ∷ pos 0 ∷ pos 0 ∷ pos 1 ∷ []) ∷ []

unfoldable pub loudness_offsets8 : List (List ℤ)
loudness_offsets8 =
    (minus 2 ∷ pos 0 ∷ pos 0 ∷ pos 0 ∷ pos 0 ∷ pos 0 ∷ pos 0 ∷ pos 1 ∷ []) ∷
    (minus 3 ∷ pos 0 ∷ pos 0 ∷ pos 0 ∷ pos 0 ∷ pos 0 ∷ pos 1 ∷ pos 2 ∷ []) ∷
    (minus 4 ∷ pos 0 ∷ pos 0 ∷ pos 0 ∷ pos 0 ∷ pos 0 ∷ pos 1 ∷ pos 2 ∷ []) ∷
    (minus 4 ∷ pos 0 ∷ pos 0 ∷ pos 0 ∷ pos 0 ∷ pos 0 ∷ pos 1 ∷ pos 2 ∷ []) ∷ []

-- for 4 subbands, and for 8
unfoldable pub loudness_offsets : ℕ → List (List ℤ)
loudness_offsets S = if eqb S 4 then loudness_offsets4 else loudness_offsets8

-- ---- P, the prototype, with 10 * S entries

unfoldable pub prototype4 : List ℤ
prototype4 =
    pos 0 ∷ pos 576115 ∷ pos 1601898 ∷ pos 2935298 ∷ pos 4120164 ∷ pos 4179058 ∷ pos 2003406 ∷ minus 3285782 ∷
    pos 11718563 ∷ pos 21945682 ∷ pos 31005089 ∷ pos 34567968 ∷ pos 27784982 ∷ pos 6584670 ∷ minus 30947094 ∷ minus 83372133 ∷
    pos 145592169 ∷ pos 209366600 ∷ pos 264824099 ∷ pos 302610729 ∷ pos 316018681 ∷ pos 302610729 ∷ pos 264824099 ∷ pos 209366600 ∷
    minus 145592169 ∷ minus 83372133 ∷ minus 30947094 ∷ pos 6584670 ∷ pos 27784982 ∷ pos 34567968 ∷ pos 31005089 ∷ pos 21945682 ∷
    minus 11718563 ∷ minus 3285782 ∷ pos 2003406 ∷ pos 4179058 ∷ pos 4120164 ∷ pos 2935298 ∷ pos 1601898 ∷ pos 576115 ∷ []

unfoldable pub prototype8 : List ℤ
prototype8 =
    pos 0 ∷ pos 168122 ∷ pos 368569 ∷ pos 595519 ∷ pos 884677 ∷ pos 1223985 ∷ pos 1585274 ∷ pos 1915252 ∷
    pos 2160181 ∷ pos 2258852 ∷ pos 2141627 ∷ pos 1735771 ∷ pos 968681 ∷ minus 191991 ∷ minus 1771385 ∷ minus 3755063 ∷
    pos 6076836 ∷ pos 8621515 ∷ pos 11229669 ∷ pos 13687238 ∷ pos 15733030 ∷ pos 17077392 ∷ pos 17417002 ∷ pos 16448018 ∷
    pos 13891192 ∷ pos 9510749 ∷ pos 3139712 ∷ minus 5278279 ∷ minus 15720018 ∷ minus 28035265 ∷ minus 41956610 ∷ minus 57109432 ∷
    pos 73013309 ∷ pos 89104205 ∷ pos 104770779 ∷ pos 119396536 ∷ pos 132354301 ∷ pos 143091576 ∷ pos 151132925 ∷ pos 156111160 ∷
    pos 157791803 ∷ pos 156111160 ∷ pos 151132925 ∷ pos 143091576 ∷ pos 132354301 ∷ pos 119396536 ∷ pos 104770779 ∷ pos 89104205 ∷
    minus 73013309 ∷ minus 57109432 ∷ minus 41956610 ∷ minus 28035265 ∷ minus 15720018 ∷ minus 5278279 ∷ pos 3139712 ∷ pos 9510749 ∷
    pos 13891192 ∷ pos 16448018 ∷ pos 17417002 ∷ pos 17077392 ∷ pos 15733030 ∷ pos 13687238 ∷ pos 11229669 ∷ pos 8621515 ∷
    minus 6076836 ∷ minus 3755063 ∷ minus 1771385 ∷ minus 191991 ∷ pos 968681 ∷ pos 1735771 ∷ pos 2141627 ∷ pos 2258852 ∷
    pos 2160181 ∷ pos 1915252 ∷ pos 1585274 ∷ pos 1223985 ∷ pos 884677 ∷ pos 595519 ∷ pos 368569 ∷ pos 168122 ∷ []

-- for 4 subbands, and for 8
unfoldable pub prototype : ℕ → List ℤ
prototype S = if eqb S 4 then prototype4 else prototype8

-- ---- C, the 32 cosines

unfoldable pub cosines : List ℤ
cosines =
    pos 1073741824 ∷ pos 1053110176 ∷ pos 992008094 ∷ pos 892783698 ∷ pos 759250125 ∷ pos 596538995 ∷ pos 410903207 ∷ pos 209476638 ∷
    pos 0 ∷ minus 209476638 ∷ minus 410903207 ∷ minus 596538995 ∷ minus 759250125 ∷ minus 892783698 ∷ minus 992008094 ∷ minus 1053110176 ∷
    minus 1073741824 ∷ minus 1053110176 ∷ minus 992008094 ∷ minus 892783698 ∷ minus 759250125 ∷ minus 596538995 ∷ minus 410903207 ∷
    minus 209476638 ∷
    pos 0 ∷ pos 209476638 ∷ pos 410903207 ∷ pos 596538995 ∷ pos 759250125 ∷ pos 892783698 ∷ pos 992008094 ∷ pos 1053110176 ∷ []
