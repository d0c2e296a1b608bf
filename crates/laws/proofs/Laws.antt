-- The laws of the calls: refusals in their order, legal kept and explanations, from files of their
-- own, and here the examples.
use Prim.Native.Nat.{ℕ}
use mathlib.Core.List.{map}
use mathlib.Core.Path.{◌≡◌, refl, ap}
use lib.Dec.{lit<}
use lib.ListN.{length}
use Rattle.bits.specs.Word.{Fits}
use Rattle.rules.specs.Status.{legal_mstatus, merged_sstatus}
use Rattle.rules.specs.Interrupts.{legal_mie, read_delegated, read_mip, written_sie, written_mip, written_sip, has_seip, legal_mideleg, legal_medeleg}
use Rattle.rules.specs.Addresses.{is_aligned, written_tvec, written_epc, written_satp}
use Rattle.rules.specs.Config.{legal_counteren, legal_countinhibit, legal_senvcfg, legal_menvcfg}
use Rattle.trap.specs.Status.{mie_of, mpp_of, spp_of, entered_status, mret_status, sret_status}
use Rattle.trap.specs.Target.{base_of}
use Rattle.trap.specs.Interrupts.{cause_of, trapped_mip}
use Rattle.hart.specs.Words.{put}
use Rattle.hart.specs.Caps.{mstatus_of}
use Rattle.csr.specs.Address.{csr_at}
use Rattle.csr.specs.Access.{read_of, stored_of, seip_change}
use Rattle.explain.specs.Lost.{lost_of, bits_below}
use Rattle.explain.specs.Reason.{reason_at}
use Rattle.explain.specs.Reasons.{elsewhere, reasons_of}
use Rattle.explain.specs.Explain.{padded, listed}
use Rattle.explain.specs.declared.reasons.Reasons.{Reasons}
use Rattle.explain.proofs.Laws.{count_is_length}
use Rattle.laws.specs.Laws.{ExamplesHold, LostExamplesHold}
pub use Rattle.laws.proofs.InOrder.{refused_in_order, settings_read_in_order, settings_write_in_order, order_is_numbers, write_order_is_numbers, lowest_refused, write_lowest_refused, check_as_calls, refusal_touches_nothing, refused_file_stays, refused_words_are_zero}
pub use Rattle.laws.proofs.CallsKeepLegal.{calls_keep_legal, fresh_stays_legal, image_stays_legal, fresh_image_stays_legal}
pub use Rattle.laws.proofs.Explained.{refused_as_write, explain_in_order, explain_lowest_refused, refused_lists_nothing, explained_is_written}
pub use Rattle.laws.proofs.Months.{tally_accepted, tally_adds, tally_refused_keeps, tally_in_order, tally_lowest_refused, tally_answers_nothing, totals_are_sums, months_add, each_bit_counted}
pub use Rattle.laws.proofs.Logs.{replay_in_order, replay_lowest_refused, end_in_order, end_lowest_refused, refused_fragment_stays, replay_keeps_legal, replay_keeps_wait, each_is_its_call, cut_anywhere, start_holds_nothing, end_of_whole_log, log_examples_hold}

pub examples_hold : ExamplesHold
unfolding put mstatus_of csr_at read_of stored_of seip_change legal_mstatus written_tvec read_delegated read_mip written_mip is_aligned has_seip base_of cause_of trapped_mip mie_of mpp_of spp_of entered_status mret_status sret_status
examples_hold = (refl, (refl, (refl, (refl, (refl, (refl, (refl, (refl, (refl, (refl, (refl, (refl, (refl, (refl, (refl, (refl, (refl, (refl, (refl, (refl, (refl, (refl, (refl, (refl, (refl, (refl, tt))))))))))))))))))))))))))

-- the listing with the count as the length of the list, which computes
shown : (w : ℕ) (why : Reasons) → Fits w
    → listed w why ≡ record { refusal = 0; count = length (bits_below w 64); bits = padded (bits_below w 64); reasons = padded (map (reason_at why) (bits_below w 64)) }
unfolding listed
shown w why h = ap (λ (n : ℕ). record { refusal = 0; count = n; bits = padded (bits_below w 64); reasons = padded (map (reason_at why) (bits_below w 64)) }) (count_is_length w h)

pub lost_examples_hold : LostExamplesHold
unfolding put mstatus_of csr_at read_of stored_of legal_mstatus merged_sstatus legal_mie written_sie written_mip written_sip legal_mideleg legal_medeleg written_tvec written_epc written_satp legal_counteren legal_countinhibit legal_senvcfg legal_menvcfg lost_of elsewhere reasons_of
lost_examples_hold = (shown _ _ (lit< tt), (shown _ _ (lit< tt), (shown _ _ (lit< tt), (shown _ _ (lit< tt), (shown _ _ (lit< tt), (shown _ _ (lit< tt), (shown _ _ (lit< tt), (shown _ _ (lit< tt), (shown _ _ (lit< tt), (shown _ _ (lit< tt), (shown _ _ (lit< tt), (shown _ _ (lit< tt), (shown _ _ (lit< tt), (shown _ _ (lit< tt), (shown _ _ (lit< tt), (shown _ _ (lit< tt), (shown _ _ (lit< tt), tt)))))))))))))))))
